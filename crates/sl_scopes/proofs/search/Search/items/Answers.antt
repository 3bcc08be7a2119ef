use Rattle.std.proofs.Common.{◌∙◌, ◌∷◌, [], ap, map}
use Rattle.std.specs.List.{flat_map}
use Rattle.std.proofs.lemmas.Result.{err_from_is_err_and}
use Rattle.def_module.specs.Scopes.{item_names, item_scopes}
use Rattle.sl_tree.specs.DeclView.{item_in}
use Rattle.sl_scopes.specs.Names.{declared_in}
use Rattle.sl_scopes.proofs.Searching.{ends_early, ends_with}
use Rattle.sl_scopes.proofs.search.Search.items.Goals as goal

pub returns-in_err-inside_items : goal.returns-in_err-inside_items
returns-in_err-inside_items c =
    let source = c.args.self.now.source.now in
    let items = map (item_in source) c.args.items.now in
    let p = err_from_is_err_and c.from_residual.result c.from_residual.ensures.1 in
    rw (p.1, p.2)
    (ends_early source (flat_map item_scopes items) (flat_map item_names items ∷ []) c.in_err-inside_items.field-0.0 c.in_err-inside_items.ensures)

pub returns : goal.returns
returns c =
    let source = c.args.self.now.source.now in
    let items = map (item_in source) c.args.items.now in
    ends_with source (flat_map item_scopes items) (flat_map item_names items) c.as_slice.result.now c.scope.result c.in_ok-inside_items.ensures
    (ap (map (declared_in source)) c.as_slice.ensures ∙ c.in_ok-names.ensures source) c.scope.ensures

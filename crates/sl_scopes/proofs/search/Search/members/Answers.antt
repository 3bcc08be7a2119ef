use Rattle.std.proofs.Common.{◌∙◌, ◌∷◌, [], ap, map}
use Rattle.std.specs.List.{flat_map}
use Rattle.std.proofs.lemmas.Result.{err_from_is_err_and}
use Rattle.def_module.specs.Scopes.{member_names, member_scopes}
use Rattle.sl_tree.specs.DeclView.{member_in}
use Rattle.sl_scopes.specs.Names.{declared_in}
use Rattle.sl_scopes.proofs.Searching.{ends_early, ends_with}
use Rattle.sl_scopes.proofs.search.Search.members.Goals as goal

pub returns-in_err-inside_members : goal.returns-in_err-inside_members
returns-in_err-inside_members c =
    let source = c.args.self.now.source.now in
    let members = map (member_in source) c.args.members.now in
    let p = err_from_is_err_and c.from_residual.result c.from_residual.ensures.1 in
    rw (p.1, p.2)
    (ends_early source (flat_map member_scopes members) (flat_map member_names members ∷ []) c.in_err-inside_members.field-0.0 c.in_err-inside_members.ensures)

pub returns : goal.returns
returns c =
    let source = c.args.self.now.source.now in
    let members = map (member_in source) c.args.members.now in
    ends_with source (flat_map member_scopes members) (flat_map member_names members) c.as_slice.result.now c.scope.result c.in_ok-inside_members.ensures
    (ap (map (declared_in source)) c.as_slice.ensures ∙ c.in_ok-names.ensures source) c.scope.ensures

use Rattle.std.proofs.Common.{◌∙◌, ◌∷◌, [], ap, map}
use Rattle.std.specs.List.{flat_map}
use Rattle.std.proofs.lemmas.Result.{err_from_is_err_and}
use Rattle.def_module.specs.Scopes.{decl_names, decl_scopes}
use Rattle.sl_tree.specs.DeclView.{decl_in}
use Rattle.sl_scopes.specs.Names.{declared_in}
use Rattle.sl_scopes.proofs.Searching.{ends_early, ends_with}
use Rattle.sl_scopes.proofs.search.Search.module.Goals as goal

pub returns-in_err-decls : goal.returns-in_err-decls
returns-in_err-decls c =
    let source = c.args.self.now.source.now in
    let decls = map (decl_in source) c.args.tree.now.decls in
    let p = err_from_is_err_and c.from_residual.result c.from_residual.ensures.1 in
    rw (p.1, p.2)
    (ends_early source (flat_map decl_scopes decls) (flat_map decl_names decls ∷ []) c.in_err-decls.field-0.0
    (rw (← c.as_slice-decls.ensures) c.in_err-decls.ensures))

pub returns : goal.returns
returns c =
    let source = c.args.self.now.source.now in
    let decls = map (decl_in source) c.args.tree.now.decls in
    ends_with source (flat_map decl_scopes decls) (flat_map decl_names decls) c.as_slice.result.now c.scope.result
    (rw (← c.as_slice-decls.ensures) c.in_ok-decls.ensures)
    (ap (map (declared_in source)) c.as_slice.ensures ∙ c.in_ok-names.ensures source ∙ ap (λ xs. flat_map decl_names (map (decl_in source) xs)) c.as_slice-decls.ensures)
    c.scope.ensures

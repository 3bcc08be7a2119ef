use Rattle.std.proofs.Common.{refl}
use Rattle.std.proofs.lemmas.Result.{err_from_is_err_and}
use Rattle.def_module.specs.Scopes.{decl_scopes}
use Rattle.sl_tree.specs.DeclView.{decl_in}
use Rattle.sl_scopes.proofs.Searching.{searched_all, searched_early, searched_more, searched_none}
use Rattle.sl_scopes.proofs.search.Search.decls.Goals as goal
use Rattle.sl_scopes.proofs.search.Search.decls.Invariants.{scopes_of}

pub loop-decl-init : goal.loop-decl-init
loop-decl-init c = searched_none (scopes_of c.args.self.now.source.now) c.args.decls.now

pub loop-decl-preserved : goal.loop-decl-preserved
loop-decl-preserved c =
    let source = c.args.self.now.source.now in
    searched_more (scopes_of source) (λ decl. decl_scopes (decl_in source decl)) (λ x xs. refl) c.args.decls.now c.loop-decl.decl-index
    c.decl-item.result c.decl-item.is c.loop-decl-test.true c.loop-decl.invariant c.in_ok-decl.ensures

pub returns-in_err-decl : goal.returns-in_err-decl
returns-in_err-decl c =
    let source = c.args.self.now.source.now in
    let p = err_from_is_err_and c.from_residual.result c.from_residual.ensures.1 in
    rw (p.1, p.2)
    (searched_early (scopes_of source) (λ decl. decl_scopes (decl_in source decl)) (λ x xs. refl) source c.args.decls.now c.loop-decl.decl-index
    c.decl-item.result c.in_err-decl.field-0.0 c.decl-item.is c.loop-decl-test.true c.loop-decl.invariant c.in_err-decl.ensures)

pub returns : goal.returns
returns c =
    searched_all (scopes_of c.args.self.now.source.now) c.args.decls.now c.loop-decl.decl-index refl c.loop-decl-test.false
    c.loop-decl.invariant

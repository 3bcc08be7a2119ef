use Rattle.std.proofs.Common.{◌≡◌, ◌∙◌, ◌∷◌, [], ◌++◌, ap, append_assoc, map, refl, sym}
use Rattle.std.proofs.lemmas.Result.{err_from_is_err_and}
use Rattle.def_tree.specs.StmtTree.{StmtTree}
use Rattle.def_module.specs.Scopes.{block_names, block_scopes, start_names, stmt_names, stmt_scopes}
use Rattle.sl_tree.specs.View.{start_in, stmt_in, stmts_of}
use Rattle.sl_tree.proofs.Views.{stmt_in-For, stmt_in-IfElse}
use Rattle.sl_scopes.specs.Names.{declared_in}
use Rattle.sl_scopes.specs.Search.{branch_scopes}
use Rattle.sl_scopes.proofs.Searching.{ends_at_first, ends_behind, ends_both, ends_early, ends_with, searched_all, searched_early, searched_more, searched_none}
use Rattle.sl_scopes.proofs.search.Search.+nested.Goals as goal
use Rattle.sl_scopes.proofs.search.Search.+nested.Invariants.{scopes_of}

pub stmts-loop-stmt-init : goal.stmts-loop-stmt-init
stmts-loop-stmt-init t c = searched_none (scopes_of c.args.self.now.source.now) c.args.stmts.now

pub stmts-loop-stmt-preserved : goal.stmts-loop-stmt-preserved
stmts-loop-stmt-preserved t c =
    let source = c.args.self.now.source.now in
    searched_more (scopes_of source) (λ stmt. stmt_scopes (stmt_in source stmt)) (λ x xs. refl)
    c.args.stmts.now c.loop-stmt.stmt-index c.stmt-item.result c.stmt-item.is c.loop-stmt-test.true c.loop-stmt.invariant c.in_ok-stmt.ensures

pub stmts-returns-in_err-stmt : goal.stmts-returns-in_err-stmt
stmts-returns-in_err-stmt t c =
    let source = c.args.self.now.source.now in
    let p = err_from_is_err_and c.from_residual.result c.from_residual.ensures.1 in
    rw (p.1, p.2)
    (searched_early (scopes_of source) (λ stmt. stmt_scopes (stmt_in source stmt)) (λ x xs. refl)
    source c.args.stmts.now c.loop-stmt.stmt-index c.stmt-item.result c.in_err-stmt.field-0.0 c.stmt-item.is c.loop-stmt-test.true
    c.loop-stmt.invariant c.in_err-stmt.ensures)

pub stmts-returns : goal.stmts-returns
stmts-returns t c =
    searched_all (scopes_of c.args.self.now.source.now) c.args.stmts.now c.loop-stmt.stmt-index refl
    c.loop-stmt-test.false c.loop-stmt.invariant

pub braces-returns-in_err-stmts : goal.braces-returns-in_err-stmts
braces-returns-in_err-stmts t c =
    let source = c.args.self.now.source.now in
    let stmts = stmts_of (map (stmt_in source) c.args.stmts.now) in
    let p = err_from_is_err_and c.from_residual.result c.from_residual.ensures.1 in
    rw (p.1, p.2)
    (ends_early source (block_scopes stmts) (block_names stmts ∷ []) c.in_err-stmts.field-0.0 c.in_err-stmts.ensures)

pub braces-returns : goal.braces-returns
braces-returns t c =
    let source = c.args.self.now.source.now in
    let stmts = stmts_of (map (stmt_in source) c.args.stmts.now) in
    ends_with source (block_scopes stmts) (block_names stmts) c.as_slice.result.now c.scope.result c.in_ok-stmts.ensures
    (ap (map (declared_in source)) c.as_slice.ensures ∙ c.in_ok-names.ensures source) c.scope.ensures

pub branch-returns-in_err-stmt : goal.branch-returns-in_err-stmt
branch-returns-in_err-stmt t c =
    let source = c.args.self.now.source.now in
    let stmt = stmt_in source c.args.stmt.now in
    let p = err_from_is_err_and c.from_residual.result c.from_residual.ensures.1 in
    rw (p.1, p.2)
    (ends_early source (stmt_scopes stmt) (stmt_names stmt ∷ []) c.in_err-stmt.field-0.0 c.in_err-stmt.ensures)

pub branch-returns : goal.branch-returns
branch-returns t c =
    let source = c.args.self.now.source.now in
    let stmt = stmt_in source c.args.stmt.now in
    ends_with source (stmt_scopes stmt) (stmt_names stmt) c.as_slice.result.now c.scope.result c.in_ok-stmt.ensures
    (ap (map (declared_in source)) c.as_slice.ensures ∙ c.in_ok-names.ensures source) c.scope.ensures

-- the scopes of `if` with `else`
if_else : (then else : StmtTree) → stmt_scopes then ++ stmt_names then ∷ branch_scopes else ≡ branch_scopes then ++ branch_scopes else
if_else then else = sym (append_assoc (stmt_scopes then) (stmt_names then ∷ []) (branch_scopes else))

pub stmt-returns-in_err-branch-in-IfElse : goal.stmt-returns-in_err-branch-in-IfElse
stmt-returns-in_err-branch-in-IfElse t c =
    let source = c.args.self.now.source.now in
    let then = stmt_in source c.in-IfElse.yes in
    let else = stmt_in source c.in-IfElse.no in
    let view = ap (stmt_in source) c.in-IfElse.is ∙ stmt_in-IfElse source c.in-IfElse.field-0 c.in-IfElse.field-1 c.in-IfElse.yes c.in-IfElse.no in
    let p = err_from_is_err_and c.from_residual.result c.from_residual.ensures.1 in
    rw (p.1, p.2, view, if_else then else)
    (ends_early source (branch_scopes then) (branch_scopes else) c.in_err-branch-in-IfElse.field-0.0
    (rw (← c.get-in-IfElse.ensures) c.in_err-branch-in-IfElse.ensures))

pub stmt-returns-in_ok-branch-in-IfElse : goal.stmt-returns-in_ok-branch-in-IfElse
stmt-returns-in_ok-branch-in-IfElse t c =
    let source = c.args.self.now.source.now in
    let then = stmt_in source c.in-IfElse.yes in
    let else = stmt_in source c.in-IfElse.no in
    let view = ap (stmt_in source) c.in-IfElse.is ∙ stmt_in-IfElse source c.in-IfElse.field-0 c.in-IfElse.field-1 c.in-IfElse.yes c.in-IfElse.no in
    rw (view, if_else then else)
    (ends_both source (branch_scopes then) (branch_scopes else) c.branch-self-in-IfElse-2.result
    (rw (← c.get-in-IfElse.ensures) c.in_ok-branch-in-IfElse.ensures) (rw (← c.get-in-IfElse-2.ensures) c.branch-self-in-IfElse-2.ensures))

pub stmt-returns-in_err-start-in-For : goal.stmt-returns-in_err-start-in-For
stmt-returns-in_err-start-in-For t c =
    let source = c.args.self.now.source.now in
    let view = ap (stmt_in source) c.in-For.is ∙ stmt_in-For source c.in-For.field-0 c.in-For.start c.in-For.field-2 c.in-For.field-3 c.in-For.body in
    let p = err_from_is_err_and c.from_residual-in_err-start-in-For.result c.from_residual-in_err-start-in-For.ensures.1 in
    rw (p.1, p.2, view)
    (ends_at_first source (start_names (start_in source c.in-For.start)) (branch_scopes (stmt_in source c.in-For.body)) c.in_err-start-in-For.field-0.0
    c.in_err-start-in-For.ensures)

pub stmt-returns-in_ok-start-in-For : goal.stmt-returns-in_ok-start-in-For
stmt-returns-in_ok-start-in-For t c =
    let source = c.args.self.now.source.now in
    let view = ap (stmt_in source) c.in-For.is ∙ stmt_in-For source c.in-For.field-0 c.in-For.start c.in-For.field-2 c.in-For.field-3 c.in-For.body in
    rw view
    (ends_behind source (start_names (start_in source c.in-For.start)) (branch_scopes (stmt_in source c.in-For.body)) c.branch-self-in-For.result
    c.in_ok-start-in-For.ensures (rw (← c.get-in-For.ensures) c.branch-self-in-For.ensures))

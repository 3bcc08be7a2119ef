use Rattle.std.proofs.Common.{[], refl}
use Rattle.def_module.specs.Scopes.{stmt_names}
use Rattle.sl_tree.specs.View.{stmt_in}
use Rattle.sl_scopes.proofs.Noting.{noted_all, noted_more, noted_none}
use Rattle.sl_scopes.proofs.declared.names_of_stmts.Goals as goal
use Rattle.sl_scopes.proofs.declared.names_of_stmts.Invariants.{scope_of}

pub loop-stmt-init : goal.loop-stmt-init
loop-stmt-init c = rw c.new-names.ensures (noted_none scope_of [] c.args.stmts.now)

pub loop-stmt-preserved : goal.loop-stmt-preserved
loop-stmt-preserved c =
    noted_more scope_of (λ source stmt. stmt_names (stmt_in source stmt)) (λ source x xs. refl) [] c.args.stmts.now c.loop-stmt.stmt-index
    c.stmt-item.result c.stmt-item.result c.loop-stmt.names c.note_stmt.new.names c.stmt-item.is c.loop-stmt-test.true c.loop-stmt.invariant
    c.in_ok-note_stmt.ensures

pub returns : goal.returns
returns c =
    noted_all scope_of [] c.args.stmts.now c.loop-stmt.stmt-index c.loop-stmt.names (λ source. refl) c.loop-stmt-test.false
    c.loop-stmt.invariant

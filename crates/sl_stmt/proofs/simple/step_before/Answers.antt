use Rattle.std.proofs.Common.{false, refl}
use Rattle.def_tree.specs.StmtTree as tree
use Rattle.def_reading.specs.Try.{expr_in}
use Rattle.sl_token.specs.View.{token_in}
use Rattle.sl_tree.specs.View as view
use Rattle.sl_tree.specs.declared.statements.SimpleTree.TheVariants as simple
use Rattle.sl_cursor.specs.Nestings.{nesting_in}
use Rattle.sl_cursor.proofs.Following.{read_as}
use Rattle.sl_stmt.proofs.simple.step_before.Goals as goal

pub returns : goal.returns
returns c =
    let bytes = c.args.input.now.bytes.now in
    read_as c.args.input.now (view.expr_in bytes) (view.simple_in bytes) (tree.PrefixStep (view.step_of c.args.step) (token_in bytes c.args.token)) (expr_in false (nesting_in c.args.around.now))
    c.args.here.now c.in_ok-expr.expr (simple.PrefixStep c.args.step c.args.token c.in_ok-expr.expr) c.in_ok-expr.end c.in_ok-expr.ensures (λ h k. refl)

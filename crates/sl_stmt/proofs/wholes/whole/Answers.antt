use Rattle.def_reading.specs.Try.{expr_in}
use Rattle.law_exprs.proofs.ExprFronts.{good_expr}
use Rattle.sl_cursor.specs.Nestings.{nesting_in}
use Rattle.sl_tree.specs.View as view
use Rattle.sl_cursor.proofs.Rising.{rises_read}
use Rattle.sl_stmt.proofs.wholes.whole.Goals as goal

pub returns-clause-read : goal.returns-clause-read
returns-clause-read c =
    let around = nesting_in c.args.around.now in
    rises_read c.args.input.now (view.expr_in c.args.input.now.bytes.now) (expr_in c.args.assigns around) (good_expr c.args.assigns around) c.args.here.now c.requires c.expr.result c.expr.ensures.read

use Rattle.def_reading.specs.Try.{type_in}
use Rattle.law_exprs.proofs.ExprFronts.{good_type}
use Rattle.sl_cursor.specs.Nestings.{nesting_in}
use Rattle.sl_tree.specs.View as view
use Rattle.sl_cursor.proofs.Rising.{rises_read}
use Rattle.sl_stmt.proofs.wholes.typed.Goals as goal

pub returns : goal.returns
returns c =
    let around = nesting_in c.args.around.now in
    rises_read c.args.input.now (view.type_in c.args.input.now.bytes.now) (type_in around) (good_type around) c.args.here.now c.requires c.ty.result c.ty.ensures

use Rattle.std.proofs.Common.{false, refl}
use Rattle.std.specs.Prelude.{Ok, Err}
use Rattle.def_tree.specs.Limits.{plain}
use Rattle.def_tree.specs.StmtTree as tree
use Rattle.def_tree.specs.Symbol.{is_sign}
use Rattle.def_reading.specs.Try.{try_as, expr_in}
use Rattle.def_reading.specs.StmtReading.{fields_in, init_in}
use Rattle.sl_tree.specs.View as view
use Rattle.sl_tree.specs.declared.statements.InitTree.TheVariants as init
use Rattle.sl_cursor.specs.Nestings.{nesting_in}
use Rattle.sl_cursor.proofs.Following.{follows_err, follows_no, stops_as, read_as}
use Rattle.sl_stmt.proofs.locals.init.Goals as goal

pub returns-in_err-value : goal.returns-in_err-value
returns-in_err-value c =
    let source = c.args.input.now in
    let bytes = source.bytes.now in
    let around = nesting_in c.args.around.now in
    let stop = c.in_err-value.field-0.0 in
    follows_err source (view.init_in bytes) (init_in around) c.args.here.now c.from_residual.result stop c.from_residual.ensures.1
    (follows_no source (view.init_in bytes) (is_sign "{") plain (fields_in around) (λ reach place. try_as tree.Value (expr_in false around reach place)) c.args.here.now (Err stop) c.in_default.ensures
    (stops_as source (view.expr_in bytes) (view.init_in bytes) tree.Value (expr_in false around) c.args.here.now stop c.in_err-value.ensures))

pub returns : goal.returns
returns c =
    let source = c.args.input.now in
    let bytes = source.bytes.now in
    let around = nesting_in c.args.around.now in
    let read = init.Value c.in_ok-value.value in
    follows_no source (view.init_in bytes) (is_sign "{") plain (fields_in around) (λ reach place. try_as tree.Value (expr_in false around reach place)) c.args.here.now (Ok (read, c.in_ok-value.end)) c.in_default.ensures
    (read_as source (view.expr_in bytes) (view.init_in bytes) tree.Value (expr_in false around) c.args.here.now c.in_ok-value.value read c.in_ok-value.end c.in_ok-value.ensures (λ h k. refl))

use Rattle.std.proofs.Common.{false}
use Rattle.sl_cursor.specs.Signs.{is_text}
use Rattle.def_reading.specs.Try.{expr_in, up_to}
use Rattle.sl_tree.specs.View as view
use Rattle.sl_cursor.specs.Nestings.{nesting_in}
use Rattle.sl_cursor.proofs.Following.{follows_err, mark_up_to}
use Rattle.sl_stmt.proofs.heads.value_up_to.Goals as goal

pub returns-in_err-behind : goal.returns-in_err-behind
returns-in_err-behind c =
    let source = c.args.input.now in
    let around = nesting_in c.args.around.now in
    let seen = view.expr_in source.bytes.now in
    let stop = c.in_err-behind.field-0.0 in
    follows_err source seen (λ reach place. up_to (is_text c.args.mark.now) (expr_in false around reach place)) c.args.here.now c.from_residual-in_err-behind.result stop c.from_residual-in_err-behind.ensures.1
    (mark_up_to source seen seen (is_text c.args.mark.now) (expr_in false around) c.args.here.now c.in_ok-value.value c.in_ok-value.end stop c.in_ok-value.ensures c.in_err-behind.ensures)

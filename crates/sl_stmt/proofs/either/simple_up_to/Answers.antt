use Rattle.sl_cursor.specs.Signs.{is_text}
use Rattle.def_reading.specs.StmtReading.{simple_in}
use Rattle.def_reading.specs.Try.{up_to}
use Rattle.sl_tree.specs.View as view
use Rattle.sl_cursor.specs.Nestings.{nesting_in}
use Rattle.sl_cursor.proofs.Following.{follows_err, mark_up_to}
use Rattle.sl_stmt.proofs.either.simple_up_to.Goals as goal

pub returns-in_err-behind-clause-read : goal.returns-in_err-behind-clause-read
returns-in_err-behind-clause-read c =
    let source = c.args.input.now in
    let around = nesting_in c.args.around.now in
    let seen = view.simple_in source.bytes.now in
    let stop = c.in_err-behind.field-0.0 in
    follows_err source seen (λ reach place. up_to (is_text c.args.mark.now) (simple_in around reach place)) c.args.here.now c.from_residual-in_err-behind.result stop c.from_residual-in_err-behind.ensures.1
    (mark_up_to source seen seen (is_text c.args.mark.now) (simple_in around) c.args.here.now c.in_ok-simple.simple c.in_ok-simple.end stop c.in_ok-simple.ensures c.in_err-behind.ensures)

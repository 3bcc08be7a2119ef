use Rattle.sl_cursor.specs.Nestings.{nesting_in}
use Rattle.sl_stmt.proofs.Eithers.{either_local, either_other}
use Rattle.sl_stmt.proofs.either.local_or_simple.Goals as goal

pub returns-in-Ok-clause-read : goal.returns-in-Ok-clause-read
returns-in-Ok-clause-read c =
    either_local c.args.input.now (nesting_in c.args.around.now) c.args.here.now c.in-Ok.local c.in-Ok.end c.in-Ok.ensures.read

pub returns-in-Err-Refused-clause-read : goal.returns-in-Err-Refused-clause-read
returns-in-Err-Refused-clause-read c =
    let h = rw c.in-Err-Refused.field-0-is at c.in-Err-Refused.ensures in
    either_other c.args.input.now (nesting_in c.args.around.now) c.args.here.now c.in-Err-Refused.reach c.otherwise.result h.read c.otherwise.ensures.read

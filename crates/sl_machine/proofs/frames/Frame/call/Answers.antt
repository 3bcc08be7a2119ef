use Rattle.sl_machine.proofs.Finished.{finish_empty}
use Rattle.sl_machine.proofs.frames.Frame.call.Goals as goal

pub returns-in_ok-new-in-InCall : goal.returns-in_ok-new-in-InCall
returns-in_ok-new-in-InCall c =
    λ source. finish_empty source c.args.self c.in-InCall.callee c.in_ok-new-in-InCall.field-0 c.in-InCall.opening c.in-InCall.args c.in-InCall.is c.in_ok-new-in-InCall.ensures
    (c.is_empty.ensures.0 c.if-is_empty.true)

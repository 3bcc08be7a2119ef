use Rattle.sl_machine.proofs.Finished.{finish_group, finish_conversion, finish_call}
use Rattle.sl_machine.proofs.frames.Frame.close.Goals as goal

pub returns-in_ok-new-in-InGroup : goal.returns-in_ok-new-in-InGroup
returns-in_ok-new-in-InGroup c =
    λ source. finish_group source c.args.self c.in-InGroup.opening c.in_ok-new-in-InGroup.field-0 c.args.last c.in-InGroup.is c.in_ok-new-in-InGroup.ensures

pub returns-in_ok-new-in-InFunctionalCast : goal.returns-in_ok-new-in-InFunctionalCast
returns-in_ok-new-in-InFunctionalCast c =
    λ source. finish_conversion source c.args.self c.in-InFunctionalCast.word c.in-InFunctionalCast.first c.in_ok-new-in-InFunctionalCast.field-0 c.args.last c.in-InFunctionalCast.is
    c.in_ok-new-in-InFunctionalCast.ensures

pub returns-in_ok-new-in-InCall : goal.returns-in_ok-new-in-InCall
returns-in_ok-new-in-InCall c =
    λ source. finish_call source c.args.self c.in-InCall.callee c.in_ok-new-in-InCall.field-0 c.in-InCall.opening c.in-InCall.args c.push.new.self c.args.last c.in-InCall.is
    c.in_ok-new-in-InCall.ensures c.in_ok-push-in-InCall.ensures.ok

use Rattle.std.proofs.Common.{subst}
use Rattle.std.proofs.lemmas.Result.{IfOk-weaker}
use Rattle.def_check.specs.Reply.{IsReplyOf}
use Rattle.rl_all.proofs.Answering.{answer_in, told_in}
use Rattle.rl_all.proofs.Texts.{reply_well}
use Rattle.rl_all.proofs.replying.reply.Goals as goal

pub returns-in_err-told-clause-subject : goal.returns-in_err-told-clause-subject
returns-in_err-told-clause-subject g c =
    (c.told_for.ensures.asks (answer_in c.args.rules.now) (told_in c.args.rules.now)).same

pub returns-in_err-told-clause-steps : goal.returns-in_err-told-clause-steps
returns-in_err-told-clause-steps g c =
    (c.told_for.ensures.asks (answer_in c.args.rules.now) (told_in c.args.rules.now)).steps

pub returns-clause-replied : goal.returns-clause-replied
returns-clause-replied g c =
    IfOk-weaker c.reply_of.result _ _
    (λ reply is. record {
      answer = answer_in c.args.rules.now;
      answers = told_in c.args.rules.now;
      replied = subst (λ all. IsReplyOf all reply) (c.in_ok-told.ensures.told (answer_in c.args.rules.now) (told_in c.args.rules.now)) is;
    })
    c.reply_of.ensures

pub returns-clause-can_be_told : goal.returns-clause-can_be_told
returns-clause-can_be_told g c =
    IfOk-weaker c.reply_of.result _ _
    (λ reply is.
    reply_well c.args.rules.now (answer_in c.args.rules.now) (told_in c.args.rules.now) c.args.request.now _ reply
    (c.in_ok-told.ensures.told (answer_in c.args.rules.now) (told_in c.args.rules.now)) is)
    c.reply_of.ensures

pub returns-clause-kept : goal.returns-clause-kept
returns-clause-kept g c =
    IfOk-weaker c.reply_of.result _ _
    (λ reply is. (c.in_ok-told.ensures.gains (answer_in c.args.rules.now) (told_in c.args.rules.now)).kept)
    c.reply_of.ensures

pub returns-clause-subject : goal.returns-clause-subject
returns-clause-subject g c =
    (c.told_for.ensures.asks (answer_in c.args.rules.now) (told_in c.args.rules.now)).same

pub returns-clause-steps : goal.returns-clause-steps
returns-clause-steps g c =
    (c.told_for.ensures.asks (answer_in c.args.rules.now) (told_in c.args.rules.now)).steps

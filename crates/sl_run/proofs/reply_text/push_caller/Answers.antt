use Rattle.std.proofs.Common.{ℕ}
use Rattle.sl_key.specs.declared.request.Reply.{Reply}
use Rattle.sl_key.specs.declared.request.Request.{Request}
use Rattle.def_reply.specs.Text.{reply_text}
use Rattle.sl_run.specs.Views.{answered_in}
use Rattle.sl_run.proofs.Numbered.{next_text}
use Rattle.sl_run.proofs.reply_text.push_caller.Goals as goal

pub loop-at-preserved : goal.loop-at-preserved
loop-at-preserved c =
    next_text (λ (numbered : ℕ × (Request × Reply)). reply_text c.args.caller numbered.0 numbered.1) answered_in
    c.args.text.now c.loop-at.text c.push_reply.new.text c.args.requests.now c.loop-at.at c.index-requests-at.result
    c.loop-at-test.true c.index-requests-at.is c.loop-at.invariant c.in_ok-push_reply.ensures

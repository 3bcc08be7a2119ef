use Rattle.std.proofs.Common.{ℕ, ◌+◌, List, [], ◌++◌, map, ap, ◌∙◌}
use Rattle.sl_key.specs.declared.request.Reply.{Reply}
use Rattle.sl_key.specs.declared.request.Request.{Request}
use Rattle.def_reply.specs.Text.{caller_text}
use Rattle.sl_run.specs.Views.{answered_in}
use Rattle.sl_run.proofs.Numbered.{next_text}
use Rattle.sl_run.proofs.reply_text.out_text.Goals as goal

pub loop-at-preserved : goal.loop-at-preserved
loop-at-preserved c =
    next_text (λ (numbered : ℕ × List (Request × Reply)). caller_text numbered.0 numbered.1) (map answered_in)
    [] c.loop-at.text c.push_caller.new.text c.args.callers.now c.loop-at.at c.index-callers-at.result
    c.loop-at-test.true c.index-callers-at.is c.loop-at.invariant
    (c.in_ok-push_caller.ensures ∙ ap (λ requests. c.loop-at.text ++ caller_text (c.loop-at.at + 1) (map answered_in requests)) c.as_slice.ensures)

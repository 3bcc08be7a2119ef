-- The text so far has the lines of each caller that the loop has passed.
use Rattle.std.proofs.Common.{◌≡◌, take}
use Rattle.def_reply.specs.Text.{callers_text}
use Rattle.sl_run.specs.Views.{callers_in}
use Rattle.sl_run.proofs.reply_text.out_text.Given as goal

abbrev pub invariant-loop-at : goal.invariant-loop-at
invariant-loop-at l = l.text ≡ callers_text (callers_in (take l.at l.callers))

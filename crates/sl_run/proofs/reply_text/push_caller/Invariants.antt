-- The text so far ends with the lines of each reply that the loop has passed.
use Rattle.std.proofs.Common.{◌≡◌, ◌++◌, map, take}
use Rattle.def_reply.specs.Text.{caller_text}
use Rattle.sl_run.specs.Views.{answered_in}
use Rattle.sl_run.proofs.reply_text.push_caller.Given as goal

abbrev pub invariant-loop-at : goal.invariant-loop-at
invariant-loop-at l =
    l.text ≡ l.initial.text ++ caller_text l.caller (map answered_in (take l.at l.requests))

-- The text so far ends with a line for each diagnostic that the loop has passed.
use Rattle.std.proofs.Common.{◌≡◌, ◌++◌, take}
use Rattle.std.specs.List.{flat_map}
use Rattle.def_reply.specs.Text.{diagnostic_line}
use Rattle.sl_run.proofs.reply_text.push_diagnostics.Given as goal

abbrev pub invariant-loop-diagnostic : goal.invariant-loop-diagnostic
invariant-loop-diagnostic l =
    l.text ≡ l.initial.text ++ flat_map diagnostic_line (take l.diagnostic-index l.diagnostics)

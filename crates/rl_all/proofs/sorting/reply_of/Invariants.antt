use Rattle.std.proofs.Common.{◌≡◌}
use Rattle.rl_all.proofs.sorting.reply_of.Given as goal

abbrev pub invariant-loop-one : goal.invariant-loop-one
invariant-loop-one l = l.diags ≡ l.yielded

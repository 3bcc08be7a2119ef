-- An element for each text that the loop has passed.
use Rattle.std.proofs.Common.{◌≡◌, length}
use Rattle.sl_base.proofs.tests.list_of.Given as goal

abbrev pub invariant-loop-text : goal.invariant-loop-text
invariant-loop-text l = length l.list ≡ l.text-index

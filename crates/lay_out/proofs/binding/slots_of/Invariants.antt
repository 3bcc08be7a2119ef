use Rattle.std.proofs.Common.{◌≡◌, length}
use Rattle.lay_out.proofs.Choosing.{AreBoundSoFar}
use Rattle.lay_out.proofs.binding.slots_of.Given as goal

abbrev pub invariant-loop-this : goal.invariant-loop-this
invariant-loop-this l = record {
  so_far : AreBoundSoFar l.wanted l.slots l.free;
  count : length l.slots ≡ l.this-index;
}

use Rattle.qs_overload.proofs.Beating.{NoneBeats}
use Rattle.qs_overload.proofs.unbeaten.is_unbeaten.Given as goal

abbrev pub invariant-loop-other : goal.invariant-loop-other
invariant-loop-other l = NoneBeats l.costs l.other-index l.number

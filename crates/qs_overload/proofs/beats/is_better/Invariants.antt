use Rattle.qs_overload.proofs.Beating.{IsSoFar}
use Rattle.qs_overload.proofs.beats.is_better.Given as goal

abbrev pub invariant-loop-place : goal.invariant-loop-place
invariant-loop-place l = IsSoFar l.one l.other l.place l.is_less

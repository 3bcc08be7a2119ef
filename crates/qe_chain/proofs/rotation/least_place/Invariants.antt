use Rattle.qe_chain.proofs.Rotating.{IsBest}
use Rattle.qe_chain.proofs.rotation.least_place.Given as goal

abbrev pub invariant-loop-i : goal.invariant-loop-i
invariant-loop-i g l = IsBest g.K.Ord.cmp l.keys l.least l.i

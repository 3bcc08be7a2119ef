use Rattle.qe_chain.proofs.Following.{Follows}
use Rattle.qe_chain.proofs.closing.reaches.Given as goal

-- what is reached from the key is reached from the place
abbrev pub invariant-loop : goal.invariant-loop
invariant-loop g l = Follows g.K.Ord.cmp l.waits l.count l.last l.key l.counter l.place

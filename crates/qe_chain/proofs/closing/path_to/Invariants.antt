use Rattle.qe_chain.proofs.Following.{Collects}
use Rattle.qe_chain.proofs.closing.path_to.Given as goal

-- the keys so far, and then those from the place on, are the path
abbrev pub invariant-loop : goal.invariant-loop
invariant-loop g l = Collects g.R.Key.Ord.cmp l.waits l.count l.last l.key l.counter l.place l.keys.items

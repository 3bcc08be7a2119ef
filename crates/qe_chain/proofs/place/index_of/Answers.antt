use Rattle.std.proofs.Common.{arith}
use Rattle.qe_chain.proofs.Places.{all_apart}
use Rattle.qe_chain.proofs.place.index_of.Goals as goal

pub returns : goal.returns
returns g c = all_apart g.K.Ord.cmp _ _ (λ i d l. c.loop-at.invariant i d (omega arith))

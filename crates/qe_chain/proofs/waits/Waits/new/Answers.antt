use Rattle.std.proofs.Common.{arith}
use Rattle.qe_chain.proofs.Kept.{opened}
use Rattle.qe_chain.proofs.waits.Waits.new.Goals as goal

pub invariant_of-result : goal.invariant_of-result
invariant_of-result g c =
    opened g.K.Ord.cmp g.met.K.Ord.total c.loop.claims.items c.loop.counter c.requires c.loop.invariant (let f =
    c.ranges.callers.fits in let e = c.loop.auto.counter-end in omega arith)

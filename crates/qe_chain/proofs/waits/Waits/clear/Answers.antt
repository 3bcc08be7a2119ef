use Rattle.qe_chain.proofs.Kept.{clears}
use Rattle.qe_chain.proofs.waits.Waits.clear.Goals as goal

pub invariant_of-self : goal.invariant_of-self
invariant_of-self g c =
    clears g.K.Ord.cmp g.met.K.Ord.total c.self.inside.callers.items c.args.self.now c.self.inside.count c.args.caller
    c.index_mut-claims.result.now c.clear.new.self c.self.view_is c.self.invariant c.requires c.index_mut-claims.ensures.value
    c.count-given_back.result c.count-given_back.ensures c.clear.ensures

use Rattle.qe_chain.proofs.Kept.{stops}
use Rattle.qe_chain.proofs.waits.Waits.stop.Goals as goal

pub invariant_of-self : goal.invariant_of-self
invariant_of-self g c =
    stops g.K.Ord.cmp g.met.K.Ord.total c.self.inside.callers.items c.args.self.now c.self.inside.count c.args.caller
    c.index_mut-claims.result.now c.stop.new.self c.self.view_is c.self.invariant c.requires.caller c.index_mut-claims.ensures.value
    c.requires.waits c.stop.ensures

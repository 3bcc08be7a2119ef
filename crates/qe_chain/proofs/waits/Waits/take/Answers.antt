use Rattle.qe_chain.proofs.Kept.{takes}
use Rattle.qe_chain.proofs.waits.Waits.take.Goals as goal

pub invariant_of-self : goal.invariant_of-self
invariant_of-self g c =
    takes g.K.Ord.cmp g.met.K.Ord.total c.self.inside.callers.items c.args.self.now c.self.inside.count c.args.caller
    c.index_mut-claims.result.now c.take.new.self c.self.view_is c.self.invariant c.requires.caller c.index_mut-claims.ensures.value
    c.requires.some c.take.ensures.rest

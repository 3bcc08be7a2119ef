use Rattle.qe_chain.proofs.Kept.{claims}
use Rattle.qe_chain.proofs.waits.Waits.claim.Goals as goal

pub invariant_of-self-2 : goal.invariant_of-self-2
invariant_of-self-2 g c =
    claims g.K.Ord.cmp g.met.K.Ord.total c.self.inside.callers.items c.args.self.now c.self.inside.count c.args.caller
    c.index_mut-claims.result.now c.claim.new.self c.self.view_is c.self.invariant c.requires.caller c.index_mut-claims.ensures.value
    c.args.key c.requires.free c.requires.unclaimed c.in_ok-claim.ensures.ok

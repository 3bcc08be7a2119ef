use Rattle.qe_chain.proofs.Kept.{waits}
use Rattle.qe_chain.proofs.waits.Waits.wait.Goals as goal

pub invariant_of-self-2 : goal.invariant_of-self-2
invariant_of-self-2 g c =
    waits g.K.Ord.cmp g.met.K.Ord.total c.self.inside.callers.items c.args.self.now c.self.inside.count c.args.caller
    c.index_mut-claims.result.now c.wait.new.self c.self.view_is c.self.invariant c.requires.caller c.index_mut-claims.ensures.value
    c.args.key c.requires.free c.in_ok-wait.ensures.ok

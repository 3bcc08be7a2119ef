use Rattle.std.proofs.Common.{◌∙◌, ap, subst}
use Rattle.std.specs.Prelude.{IsSome}
use Rattle.def_core.specs.State.{Caller}
use Rattle.qe_chain.proofs.Kept.{takes_up, same_now, some_key}
use Rattle.qe_chain.proofs.waits.Waits.take_up.Goals as goal

pub invariant_of-self : goal.invariant_of-self
invariant_of-self g c =
    let was = c.index_mut-claims.result.now in
    let same =
    same_now g.K.Ord.cmp g.met.K.Ord.total c.self.inside.callers.items c.args.self.now c.self.inside.count c.args.caller
    was c.take_up.new.self c.self.view_is c.self.invariant c.requires.caller c.index_mut-claims.ensures.value in
    let k = some_key was.awaits (subst (λ (w : Caller g.row.K.Denot). IsSome w.awaits) same c.requires.waits) in
    takes_up g.K.Ord.cmp g.met.K.Ord.total c.self.inside.callers.items c.args.self.now c.self.inside.count c.args.caller
    was c.take_up.new.self c.self.view_is c.self.invariant c.requires.caller c.index_mut-claims.ensures.value
    k.0 c.requires.waits (c.requires.unclaimed k.0 (ap (λ (w : Caller g.row.K.Denot). w.awaits) same ∙ k.1)) (c.take_up.ensures k.0 k.1)

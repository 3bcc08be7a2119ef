use Rattle.std.proofs.Common.{ap, ◌∙◌, ◌≡◌, sym, subst}
use Rattle.def_core.specs.State.{Caller, last, without_last}
use Rattle.def_core.proofs.Lists.{last_snoc, front_snoc}
use Rattle.qe_chain.proofs.claims.Claims.take.Goals as goal

pub returns-clause-last : goal.returns-clause-last
returns-clause-last g c =
    rw (← c.self.view_is) (ap last c.in-Some.ensures.items ∙ last_snoc c.pop.new.self.items c.in-Some.key)

pub returns-clause-rest : goal.returns-clause-rest
returns-clause-rest g c =
    let e = ap without_last c.in-Some.ensures.items ∙ front_snoc c.pop.new.self.items c.in-Some.key in
    subst (λ (w : Caller g.row.K.Denot). record { chain = c.pop.new.self.items; awaits = c.self.inside.awaits } ≡ record { chain = without_last w.chain; awaits = w.awaits })
    c.self.view_is
    (ap (λ l. record { chain = l; awaits = c.self.inside.awaits }) (sym e))

use Rattle.std.proofs.Common.{arith, ◌≡◌, ◌∙◌, ap, subst, get_or, length, sym, true}
use Rattle.std.specs.Ordering.{eq_by_cmp}
use Rattle.qe_chain.specs.Chains.{IsApart}
use Rattle.qe_chain.proofs.Places.{finds, finds_none}
use Rattle.qe_chain.proofs.waits.Waits.place.Goals as goal

pub returns-in-Some : goal.returns-in-Some
returns-in-Some g c =
    let items : c.deref-claims-items.result.now ≡ c.self.inside.callers.items = c.deref-claims-items.ensures.value in
    finds g.K.Ord.cmp g.met.K.Ord.total c.deref-claims-items.result.now c.args.self.now c.self.inside.count (items ∙ c.self.view_is)
    (subst (λ l. IsApart g.K.Ord.cmp l c.self.inside.count) (sym items) c.self.invariant)
    c.args.key.now record { caller = c.loop-caller.caller; index = c.in-Some.index } c.claims-item.result c.loop-caller-test.true c.claims-item.is
    (let e = ap length c.chain.ensures in let h = c.in-Some.ensures.0 in omega arith)
    (λ d. subst (λ l. eq_by_cmp g.K.Ord.cmp c.args.key.now (get_or l c.in-Some.index d) ≡ true) c.chain.ensures (c.in-Some.ensures.1 d))

pub returns : goal.returns
returns g c =
    let items : c.deref-claims-items.result.now ≡ c.self.inside.callers.items = c.deref-claims-items.ensures.value in
    let at_end : length c.deref-claims-items.result.now ≡ c.loop-caller.caller = (let e = c.loop-caller.auto.caller-end in let f = c.loop-caller-test.false in omega arith) in
    finds_none g.K.Ord.cmp g.met.K.Ord.total c.deref-claims-items.result.now c.args.self.now c.self.inside.count (items ∙ c.self.view_is)
    (subst (λ l. IsApart g.K.Ord.cmp l c.self.inside.count) (sym items) c.self.invariant)
    c.args.key.now (λ j h. c.loop-caller.invariant j (omega arith))

use Rattle.std.proofs.Common.{arith, ap, length}
use Rattle.qe_chain.proofs.Places.{steps_in, steps_nowhere, steps_over}
use Rattle.qe_chain.proofs.waits.Waits.next.Goals as goal

pub returns-then-place-chain : goal.returns-then-place-chain
returns-then-place-chain g c =
    steps_in g.K.Ord.cmp g.met.K.Ord.total c.self.inside.callers.items c.args.self.now c.self.inside.count c.self.view_is c.self.invariant
    c.args.place c.requires c.index-claims.result.now c.index-claims.ensures
    (let e = ap length c.chain.ensures in let h = c.if-place-chain.true in omega arith)

pub returns-in-None : goal.returns-in-None
returns-in-None g c =
    steps_nowhere g.K.Ord.cmp g.met.K.Ord.total c.self.inside.callers.items c.args.self.now c.self.inside.count c.self.view_is c.self.invariant
    c.args.place c.requires c.index-claims.result.now c.index-claims.ensures
    (let e = ap length c.chain.ensures in let h = c.if-place-chain.false in omega arith)
    c.in-None.ensures

pub returns-in-Some : goal.returns-in-Some
returns-in-Some g c =
    steps_over g.K.Ord.cmp g.met.K.Ord.total c.self.inside.callers.items c.args.self.now c.self.inside.count c.self.view_is c.self.invariant
    c.args.place c.requires c.index-claims.result.now c.index-claims.ensures
    c.in-Some.key.now c.place.result
    (let e = ap length c.chain.ensures in let h = c.if-place-chain.false in omega arith)
    c.in-Some.ensures c.place.ensures

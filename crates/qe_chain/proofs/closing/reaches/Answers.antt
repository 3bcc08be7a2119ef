use Rattle.std.proofs.Common.{◌∙◌, sym, ap, is_eq}
use Rattle.qe_chain.proofs.Following.{same_key, other_key, free_false, begins, arrives, stops, goes, ends}
use Rattle.qe_chain.proofs.closing.reaches.Goals as goal

pub returns-in-None : goal.returns-in-None
returns-in-None g c =
    free_false g.K.Ord.cmp g.met.K.Ord.total c.args.waits.now c.args.count c.requires.apart
    c.args.last.now c.requires.claimed c.args.key.now c.in-None.ensures

pub loop-init : goal.loop-init
loop-init g c =
    begins g.K.Ord.cmp g.met.K.Ord.total c.args.waits.now c.args.count c.requires.apart
    c.args.last.now c.requires.claimed c.args.key.now c.in-Some.place c.in-Some.ensures.0

pub key-requires : goal.key-requires
key-requires g c = c.loop.invariant.within

pub returns-then-is_eq : goal.returns-then-is_eq
returns-then-is_eq g c =
    arrives g.K.Ord.cmp g.met.K.Ord.total c.args.waits.now c.args.count c.requires.apart
    c.args.last.now c.requires.claimed c.args.key.now c.loop.counter c.loop.place c.key.result.now c.loop.invariant c.loop-test.true c.key.ensures
    (same_key g.K.Ord.cmp g.met.K.Ord.total c.args.waits.now c.args.count c.requires.apart
    c.args.last.now c.requires.claimed c.key.result.now (ap is_eq (sym c.cmp.ensures) ∙ sym c.if-is_eq.ensures))

pub returns-in-None-next : goal.returns-in-None-next
returns-in-None-next g c =
    stops g.K.Ord.cmp g.met.K.Ord.total c.args.waits.now c.args.count c.requires.apart
    c.args.last.now c.requires.claimed c.args.key.now c.loop.counter c.loop.place c.key.result.now c.loop.invariant c.loop-test.true c.key.ensures
    (other_key g.K.Ord.cmp g.met.K.Ord.total c.args.waits.now c.args.count c.requires.apart
    c.args.last.now c.requires.claimed c.key.result.now (ap is_eq (sym c.cmp.ensures) ∙ sym c.if-is_eq.ensures))
    c.in-None-next.ensures

pub loop-preserved : goal.loop-preserved
loop-preserved g c =
    goes g.K.Ord.cmp g.met.K.Ord.total c.args.waits.now c.args.count c.requires.apart
    c.args.last.now c.requires.claimed c.args.key.now c.loop.counter c.loop.place c.in-Some-next.next c.key.result.now c.loop.invariant c.loop-test.true c.key.ensures
    (other_key g.K.Ord.cmp g.met.K.Ord.total c.args.waits.now c.args.count c.requires.apart
    c.args.last.now c.requires.claimed c.key.result.now (ap is_eq (sym c.cmp.ensures) ∙ sym c.if-is_eq.ensures))
    c.in-Some-next.ensures

pub returns : goal.returns
returns g c =
    ends g.K.Ord.cmp g.met.K.Ord.total c.args.waits.now c.args.count c.requires.apart
    c.args.last.now c.requires.claimed c.args.key.now c.loop.counter c.loop.place c.loop.invariant c.loop-test.false

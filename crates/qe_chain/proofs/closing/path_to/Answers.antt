use Rattle.std.proofs.Common.{◌∙◌, sym, ap, is_eq, ◌++◌, ◌∷◌, [], Some}
use Rattle.qe_chain.proofs.Following.{same_key, other_key, collects_none, collected, collects_more, cannot_begin, cannot_stop, cannot_end}
use Rattle.qe_chain.proofs.closing.path_to.Goals as goal

pub unreachable-requires : goal.unreachable-requires
unreachable-requires g c =
    cannot_begin g.R.Key.Ord.cmp g.met.R.Key.Ord.total c.args.waits.now c.open_count-count.result c.open_count-count.ensures
    c.args.last.now c.requires.claimed
    c.args.key.now c.in-None.ensures c.requires.reached

pub loop-init : goal.loop-init
loop-init g c =
    collects_none g.R.Key.Ord.cmp g.met.R.Key.Ord.total c.args.waits.now c.open_count-count.result c.open_count-count.ensures
    c.args.last.now c.requires.claimed
    c.args.key.now c.in-Some.place c.new-keys.result.items c.new-keys.ensures.items c.in-Some.ensures.0

pub returns-then-is_eq : goal.returns-then-is_eq
returns-then-is_eq g c =
    let pushed = c.in_ok-push.ensures.items ∙ ap (λ k. c.loop.keys.items ++ k ∷ []) c.in_ok-copy_key.ensures in
    collected g.R.Key.Ord.cmp g.met.R.Key.Ord.total c.args.waits.now c.open_count-count.result c.open_count-count.ensures
    c.args.last.now c.requires.claimed
    c.args.key.now c.loop.counter c.loop.place c.key-here.result.now c.loop.keys.items c.push.new.self.items c.loop.invariant c.loop-test.true c.key-here.ensures
    (same_key g.R.Key.Ord.cmp g.met.R.Key.Ord.total c.args.waits.now c.open_count-count.result c.open_count-count.ensures
    c.args.last.now c.requires.claimed
    c.key-here.result.now (ap is_eq (sym c.cmp.ensures) ∙ sym c.if-is_eq.ensures))
    pushed
    ∙ ap Some (sym c.from_vec.ensures)

pub unreachable-requires-in-None-next : goal.unreachable-requires-in-None-next
unreachable-requires-in-None-next g c =
    cannot_stop g.R.Key.Ord.cmp g.met.R.Key.Ord.total c.args.waits.now c.open_count-count.result c.open_count-count.ensures
    c.args.last.now c.requires.claimed
    c.args.key.now c.loop.counter c.loop.place c.key-here.result.now c.loop.keys.items c.loop.invariant c.loop-test.true c.key-here.ensures
    (other_key g.R.Key.Ord.cmp g.met.R.Key.Ord.total c.args.waits.now c.open_count-count.result c.open_count-count.ensures
    c.args.last.now c.requires.claimed
    c.key-here.result.now (ap is_eq (sym c.cmp.ensures) ∙ sym c.if-is_eq.ensures))
    c.in-None-next.ensures c.requires.reached

pub loop-preserved : goal.loop-preserved
loop-preserved g c =
    let pushed = c.in_ok-push.ensures.items ∙ ap (λ k. c.loop.keys.items ++ k ∷ []) c.in_ok-copy_key.ensures in
    collects_more g.R.Key.Ord.cmp g.met.R.Key.Ord.total c.args.waits.now c.open_count-count.result c.open_count-count.ensures
    c.args.last.now c.requires.claimed
    c.args.key.now c.loop.counter c.loop.place c.in-Some-next.next c.key-here.result.now c.loop.keys.items c.push.new.self.items c.loop.invariant c.loop-test.true c.key-here.ensures
    (other_key g.R.Key.Ord.cmp g.met.R.Key.Ord.total c.args.waits.now c.open_count-count.result c.open_count-count.ensures
    c.args.last.now c.requires.claimed
    c.key-here.result.now (ap is_eq (sym c.cmp.ensures) ∙ sym c.if-is_eq.ensures))
    pushed c.in-Some-next.ensures

pub unreachable-requires-2 : goal.unreachable-requires-2
unreachable-requires-2 g c =
    cannot_end g.R.Key.Ord.cmp g.met.R.Key.Ord.total c.args.waits.now c.open_count-count.result c.open_count-count.ensures
    c.args.last.now c.requires.claimed
    c.args.key.now c.loop.counter c.loop.place c.loop.keys.items c.loop.invariant c.loop-test.false c.requires.reached

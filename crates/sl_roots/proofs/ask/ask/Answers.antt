use Rattle.std.proofs.Common.{arith, ◌∙◌, length-set}
use Rattle.sl_roots.proofs.Asking.{passed_item, decided_item, absent_items}
use Rattle.sl_roots.proofs.ask.ask.Goals as goal

pub returns : goal.returns
returns g c =
    let counted = c.args.roots.now.ok.0 in
    let counted_now = c.loop-at.roots.ok.0 in
    absent_items _ _ _ _ _ _ (omega (arith, counted, c.len-at-end.ensures)) (omega (arith, counted, counted_now, c.len.ensures, c.len-at-end.ensures)) c.loop-at.invariant.passed

pub returns-in_default : goal.returns-in_default
returns-in_default g c =
    decided_item _ _ _ _ _ _ _ _ (omega (arith, c.args.roots.now.ok.0)) c.index_mut.ensures.value c.loop-at.invariant.passed c.fetch_from.ensures c.in_default.not-Absent

pub loop-at-preserved : goal.loop-at-preserved
loop-at-preserved g c =
    let fetch = rw c.in-Absent.is at c.fetch_from.ensures in
    record {
      as_many = length-set _ _ _ ∙ c.loop-at.invariant.as_many;
      passed = passed_item _ _ _ _ _ _ _ (omega (arith, c.args.roots.now.ok.0)) c.index_mut.ensures.value c.loop-at.invariant.passed fetch;
    }

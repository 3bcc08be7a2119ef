use Rattle.std.proofs.Common.{◌+◌, ◌<◌, arith, length, sym, subst}
use Rattle.std.proofs.lemmas.List.{get_or_default}
use Rattle.lay_out.proofs.Passing.{IsPassing, passing_all, passing_below, passing_next}
use Rattle.lay_out.specs.declared.free.Free.{Free}
use Rattle.lay_out.proofs.free.Free.take.Goals.{then-loop-self-test+else-index-self, else-loop-self-test, then-index-self-2, else-index-self-2}
use Rattle.lay_out.proofs.free.Free.take.Goals as goal

pub loop-self-preserved : goal.loop-self-preserved
loop-self-preserved c =
    let s = c.loop-self.self in
    let inside : s.passed < length s.fixed.items = omega arith in
    let one = get_or_default s.fixed.items s.passed c.index.result.now 0 inside in
    let two = get_or_default s.fixed.items s.passed c.index-in-loop-self.result.now 0 inside in
    let old = c.args.self.now in
    elim c.if-index-self-2.branch [
      | then-index-self-2 w ↦ subst (λ (now : Free). IsPassing old now.fixed.items (now.passed + 1) now.next) (sym w.self-is)
          (passing_next old s.fixed.items s.passed s.next inside (omega arith) c.loop-self.invariant)
      | else-index-self-2 w ↦ subst (λ (now : Free). IsPassing old now.fixed.items (now.passed + 1) now.next) (sym w.self-is)
          (passing_below old s.fixed.items s.passed s.next inside (omega arith) c.loop-self.invariant)
    ]

pub returns : goal.returns
returns c =
    let s = c.loop-self.self in
    passing_all c.args.self.now _ s.next c.loop-self.invariant
    (λ h. elim c.loop-self-test.branch [
      | then-loop-self-test+else-index-self w ↦ let e = get_or_default s.fixed.items s.passed w.index.result.now 0 h in omega arith
      | else-loop-self-test w ↦ omega arith
    ])
    (omega arith)

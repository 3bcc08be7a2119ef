use Rattle.std.proofs.Common.{arith, inl, inr}
use Rattle.sl_roots.proofs.Sets.{gained_module, gained_absent}
use Rattle.sl_roots.proofs.loading.take.Goals as goal
use Rattle.sl_roots.proofs.loading.take.Goals.{in-Found+else-len-eq-MOST_MODULES+in_ok-push-in-Found, in-Absent+in_ok-push-in-Absent}

pub returns-then-len-eq-MOST_MODULES-clause-err : goal.returns-then-len-eq-MOST_MODULES-clause-err
returns-then-len-eq-MOST_MODULES-clause-err g c =
    (omega arith, (c.in-Found.bytes, c.ask-answer.result.asked, rw c.in-Found.is at c.ask-answer.ensures))

pub returns-in-TooLarge-clause-err : goal.returns-in-TooLarge-clause-err
returns-in-TooLarge-clause-err g c =
    (c.in_ok-name.ensures, (c.ask-answer.result.asked, rw c.in-TooLarge.is at c.ask-answer.ensures))

pub returns-in-Failed-clause-err : goal.returns-in-Failed-clause-err
returns-in-Failed-clause-err g c =
    (c.in_ok-name.ensures, (c.ask-answer.result.asked, c.counted-root.ensures, rw c.in-Failed.is at c.ask-answer.ensures))

pub returns-clause-ok : goal.returns-clause-ok
returns-clause-ok g c =
    let asked = c.ask-answer.result.asked in
    let named = c.in_ok-name.ensures in
    elim c.match-answer-2.branch [
      | in-Found+else-len-eq-MOST_MODULES+in_ok-push-in-Found w ↦
          let pushed = w.in_ok-push-in-Found.ensures.ok in
          let fetch = rw w.in-Found.is at c.ask-answer.ensures in
          inl (w.in-Found.bytes, asked, fetch, gained_module _ _ _ _ _ _ _ w.set-is pushed named w.in-Found.bytes-is)
      | in-Absent+in_ok-push-in-Absent w ↦
          let pushed = w.in_ok-push-in-Absent.ensures.ok in
          let fetch = rw w.in-Absent.is at c.ask-answer.ensures in
          inr (asked, fetch, gained_absent _ _ _ _ _ w.set-is pushed named)
    ]

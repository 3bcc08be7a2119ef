use Rattle.std.proofs.Common.{◌≡◌, ◌+◌, ◌-◌, length}
use Rattle.qe_rules.proofs.Used.{IsGoing}
use Rattle.qe_rules.proofs.anew.work_anew.Given as goal

abbrev pub invariant-loop-answer : goal.invariant-loop-answer
invariant-loop-answer g l = record {
  going :
      IsGoing g.B.Key.Ord.cmp g.met.B.Key.Ord.total (g.B.Bodies.meaning l.bodies) (g.met.B.Bodies.lawful l.bodies)
      l.known.pairs l.fn.used.pairs l.fn.order.items l.used.pairs l.order.items;
  steps : l.steps ≡ l.fn.steps;
}

-- the known answers that it has not used
abbrev pub decreases-loop-answer : goal.decreases-loop-answer
decreases-loop-answer g l = length l.known.pairs + length l.fn.used.pairs - length l.used.pairs

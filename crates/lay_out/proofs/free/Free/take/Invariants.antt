use Rattle.std.proofs.Common.{◌-◌, length}
use Rattle.lay_out.proofs.Passing.{IsPassing}
use Rattle.lay_out.proofs.free.Free.take.Given as goal

abbrev pub invariant-loop-self : goal.invariant-loop-self
invariant-loop-self l = IsPassing l.fn.self l.self.fixed.items l.self.passed l.self.next

abbrev pub decreases-loop-self : goal.decreases-loop-self
decreases-loop-self l = length l.self.fixed.items - l.self.passed

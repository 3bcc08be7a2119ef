use Rattle.std.proofs.Common.{◌≡◌, ℕ}
use Rattle.def_turn.specs.Pass.{Holds}
use Rattle.sl_turn.proofs.tests.add_all.Given as goal

abbrev pub invariant-loop-step : goal.invariant-loop-step
invariant-loop-step g l = (l.pass.lock ≡ l.fn.pass.lock) × (l.pass.next ≡ l.fn.pass.next) × ((n : ℕ) → Holds l.fn.pass.books n → Holds l.pass.books n)

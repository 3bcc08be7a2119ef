use Rattle.std.proofs.Common.{◌≡◌, ℕ, ◌<◌, true}
use Rattle.sp_order.specs.Rules.{test_of}
use Rattle.sp_order.proofs.rules.first_break.Given as goal

-- the rule holds at the places so far
abbrev pub invariant-loop-place : goal.invariant-loop-place
invariant-loop-place l = (j : ℕ) → j < l.place → test_of l.rule l.places j ≡ true

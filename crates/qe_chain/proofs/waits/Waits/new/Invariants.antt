use Rattle.std.proofs.Common.{◌≡◌, replicate}
use Rattle.def_core.specs.State.{idle}
use Rattle.qe_chain.proofs.waits.Waits.new.Given as goal

abbrev pub invariant-loop : goal.invariant-loop
invariant-loop g l = l.claims.items ≡ replicate l.counter idle

use Rattle.std.proofs.Common.{length, map}
use Rattle.std.specs.Borrow.{Bor}
use Rattle.sl_run.specs.Cutting.{CutsTo}
use Rattle.std.specs.Prelude.{List, ℕ}
use Rattle.sl_run.proofs.token.tokens.Given as goal

-- the tokens so far leave the rest
abbrev pub invariant-loop-rest : goal.invariant-loop-rest
invariant-loop-rest l = CutsTo l.fn.text (map (λ (token : Bor (List ℕ)). token.now) l.tokens.items) l.rest

abbrev pub decreases-loop-rest : goal.decreases-loop-rest
decreases-loop-rest l = length l.rest

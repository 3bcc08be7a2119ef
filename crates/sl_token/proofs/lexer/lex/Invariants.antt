-- The tokens so far are those in front of the rest.
use Rattle.std.proofs.Common.{length}
use Rattle.sl_token.proofs.Reached.{Reached}
use Rattle.sl_token.proofs.lexer.lex.Given as goal

abbrev pub invariant-loop-rest : goal.invariant-loop-rest
invariant-loop-rest l = Reached l.bytes l.tokens l.rest l.here

abbrev pub decreases-loop-rest : goal.decreases-loop-rest
decreases-loop-rest l = length l.rest

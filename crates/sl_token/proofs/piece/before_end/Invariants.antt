-- No end stands before the place that the loop has come to.
use Rattle.std.proofs.Common.{◌≡◌, ◌+◌, drop}
use Rattle.sl_token.specs.Cutting.{before_end}
use Rattle.sl_token.proofs.piece.before_end.Given as goal

abbrev pub invariant-loop-at : goal.invariant-loop-at
invariant-loop-at l = before_end l.text ≡ l.at + before_end (drop l.at l.text)

use Rattle.std.proofs.Common.{◌+◌, ◌-◌, ◌*◌, length}
use Rattle.sl_cursor.specs.Nestings.{nesting_in}
use Rattle.sl_stmt.proofs.Blocks.{IsBlocked}
use Rattle.sl_stmt.proofs.statements.+statements.Given as goal

abbrev pub decreases-stmt : goal.decreases-stmt
decreases-stmt l = 8 * (length l.input.now.tokens.now - l.here.now.place.at) + 2

abbrev pub decreases-block : goal.decreases-block
decreases-block l = 8 * (length l.input.now.tokens.now - l.here.now.place.at) + 4

abbrev pub decreases-stmts : goal.decreases-stmts
decreases-stmts l = 8 * (length l.input.now.tokens.now - l.here.now.place.at) + 3

abbrev pub decreases-body : goal.decreases-body
decreases-body l = 8 * (length l.input.now.tokens.now - l.here.now.place.at) + 3

abbrev pub decreases-conditional : goal.decreases-conditional
decreases-conditional l = 8 * (length l.input.now.tokens.now - l.here.now.place.at) + 4

abbrev pub decreases-repeated : goal.decreases-repeated
decreases-repeated l = 8 * (length l.input.now.tokens.now - l.here.now.place.at) + 4

abbrev pub decreases-counted : goal.decreases-counted
decreases-counted l = 8 * (length l.input.now.tokens.now - l.here.now.place.at) + 4

-- the statements so far stand in front of those that are left
abbrev pub invariant-stmts-loop-end : goal.invariant-stmts-loop-end
invariant-stmts-loop-end l = IsBlocked l.input (nesting_in l.inside) l.here l.stmts l.next

abbrev pub decreases-stmts-loop-end : goal.decreases-stmts-loop-end
decreases-stmts-loop-end l = length l.input.tokens.now - l.next.place.at

use Rattle.std.proofs.Common.{false, length}
use Rattle.def_tree.specs.ExprTree.{NoExprs, MoreExprs}
use Rattle.def_reading.specs.Try as lists
use Rattle.sl_tree.specs.View.{expr_in}
use Rattle.sl_cursor.specs.Nestings.{nesting_in}
use Rattle.sl_cursor.proofs.Listed.{IsListed}
use Rattle.sl_stmt.proofs.locals.values.Given as goal

-- the values so far stand in front of those that are left
abbrev pub invariant-loop-values : goal.invariant-loop-values
invariant-loop-values l = IsListed l.input (expr_in l.input.bytes.now) MoreExprs NoExprs (lists.expr_in false (nesting_in l.around)) l.here l.values l.next

abbrev pub decreases-loop-values : goal.decreases-loop-values
decreases-loop-values l = length l.next.place.rest.now

use Rattle.std.proofs.Common.{[], length}
use Rattle.def_reading.specs.StmtReading as lists
use Rattle.def_reading.specs.StmtReading.{with_more}
use Rattle.sl_tree.specs.View.{declarator_in}
use Rattle.sl_cursor.specs.Nestings.{nesting_in}
use Rattle.sl_cursor.proofs.Listed.{IsListed}
use Rattle.sl_stmt.proofs.locals.declarators.Given as goal

-- the declarators so far stand in front of those that are left
abbrev pub invariant-loop-declarators : goal.invariant-loop-declarators
invariant-loop-declarators l = IsListed l.input (declarator_in l.input.bytes.now) with_more [] (lists.declarator_in (nesting_in l.around)) l.here l.declarators l.next

abbrev pub decreases-loop-declarators : goal.decreases-loop-declarators
decreases-loop-declarators l = length l.next.place.rest.now

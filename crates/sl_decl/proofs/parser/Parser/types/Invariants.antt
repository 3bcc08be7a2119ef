use Rattle.std.proofs.Common.{[], length}
use Rattle.def_decl_reading.specs.Form.{reads, AType, with_first}
use Rattle.sl_tree.specs.View.{type_in}
use Rattle.sl_cursor.specs.Nestings.{nesting_in}
use Rattle.sl_cursor.proofs.Listed.{IsListed}
use Rattle.sl_decl.proofs.parser.Parser.types.Given as goal

-- the parts so far stand in front of those that are left
abbrev pub invariant-loop-types : goal.invariant-loop-types
invariant-loop-types l =
    IsListed l.self.source (type_in l.self.source.bytes.now) with_first [] (reads (AType (nesting_in l.around))) l.here
    l.types l.next

abbrev pub decreases-loop-types : goal.decreases-loop-types
decreases-loop-types l = length l.next.place.rest.now

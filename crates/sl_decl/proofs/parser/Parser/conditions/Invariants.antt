use Rattle.std.proofs.Common.{length}
use Rattle.def_tree.specs.Limits.{plain}
use Rattle.def_decl_reading.specs.Form.{ASign}
use Rattle.def_decl_reading.specs.MemberReading as forms
use Rattle.sl_tree.specs.DeclView.{where_in}
use Rattle.sl_cursor.specs.Nestings.{nesting_in}
use Rattle.sl_decl.proofs.Looping.{IsMany}
use Rattle.sl_decl.proofs.parser.Parser.conditions.Given as goal

-- the parts so far stand in front of those that are left
abbrev pub invariant-loop-word : goal.invariant-loop-word
invariant-loop-word l =
    IsMany l.self.source (where_in l.self.source.bytes.now) (ASign "where") plain (forms.where_form (nesting_in l.around))
    l.here l.conditions l.next

abbrev pub decreases-loop-word : goal.decreases-loop-word
decreases-loop-word l = length l.next.place.rest.now

use Rattle.std.proofs.Common.{length}
use Rattle.def_decl_reading.specs.MemberReading as forms
use Rattle.sl_tree.specs.DeclView.{member_in}
use Rattle.sl_cursor.specs.Nestings.{nesting_in}
use Rattle.def_tree.specs.Symbol.{is_sign}
use Rattle.sl_decl.proofs.Looping.{IsUntil}
use Rattle.sl_decl.proofs.parser.Parser.additions.Given as goal

-- the parts so far stand in front of those that are left
abbrev pub invariant-loop-members : goal.invariant-loop-members
invariant-loop-members l =
    IsUntil l.self.source (member_in l.self.source.bytes.now) (is_sign "}") (forms.addition_form (nesting_in l.inside))
    l.here l.members l.next

abbrev pub decreases-loop-members : goal.decreases-loop-members
decreases-loop-members l = length l.next.place.rest.now

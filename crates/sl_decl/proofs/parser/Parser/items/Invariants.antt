use Rattle.std.proofs.Common.{length}
use Rattle.def_decl_reading.specs.MemberReading as forms
use Rattle.sl_tree.specs.DeclView.{item_in}
use Rattle.sl_cursor.specs.Nestings.{nesting_in}
use Rattle.def_tree.specs.Symbol.{is_sign}
use Rattle.sl_decl.proofs.Looping.{IsUntil}
use Rattle.sl_decl.proofs.parser.Parser.items.Given as goal

-- the parts so far stand in front of those that are left
abbrev pub invariant-loop-items : goal.invariant-loop-items
invariant-loop-items l =
    IsUntil l.self.source (item_in l.self.source.bytes.now) (is_sign "}") (forms.item_form (nesting_in l.inside)) l.here
    l.items l.next

abbrev pub decreases-loop-items : goal.decreases-loop-items
decreases-loop-items l = length l.next.place.rest.now

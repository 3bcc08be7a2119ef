use Rattle.std.proofs.Common.{[], length}
use Rattle.def_decl_reading.specs.Form.{reads, with_first}
use Rattle.def_decl_reading.specs.MemberReading as forms
use Rattle.sl_tree.specs.DeclView.{param_in}
use Rattle.sl_cursor.specs.Nestings.{nesting_in}
use Rattle.sl_cursor.proofs.Listed.{IsListed}
use Rattle.sl_decl.proofs.parser.Parser.listed_params.Given as goal

-- the parts so far stand in front of those that are left
abbrev pub invariant-loop-params : goal.invariant-loop-params
invariant-loop-params l =
    IsListed l.self.source (param_in l.self.source.bytes.now) with_first []
    (reads (forms.param_form (nesting_in l.around))) l.here l.params l.next

abbrev pub decreases-loop-params : goal.decreases-loop-params
decreases-loop-params l = length l.next.place.rest.now

use Rattle.std.proofs.Common.{[], length}
use Rattle.def_decl_reading.specs.Form.{reads, with_first}
use Rattle.def_decl_reading.specs.MemberReading as forms
use Rattle.sl_tree.specs.DeclView.{arg_in}
use Rattle.sl_cursor.specs.Nestings.{nesting_in}
use Rattle.sl_cursor.proofs.Listed.{IsListed}
use Rattle.sl_decl.proofs.parser.Parser.listed_args.Given as goal

-- the parts so far stand in front of those that are left
abbrev pub invariant-loop-args : goal.invariant-loop-args
invariant-loop-args l =
    IsListed l.self.source (arg_in l.self.source.bytes.now) with_first [] (reads (forms.arg_form (nesting_in l.around)))
    l.here l.args l.next

abbrev pub decreases-loop-args : goal.decreases-loop-args
decreases-loop-args l = length l.next.place.rest.now

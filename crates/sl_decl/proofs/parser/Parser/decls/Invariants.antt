use Rattle.std.proofs.Common.{length}
use Rattle.def_decl_reading.specs.Form.{ends}
use Rattle.def_decl_reading.specs.DeclReading as decls
use Rattle.sl_tree.specs.DeclView.{decl_in}
use Rattle.sl_cursor.specs.Nestings.{nesting_in}
use Rattle.sl_decl.proofs.Looping.{IsUntil}
use Rattle.sl_decl.proofs.parser.Parser.decls.Given as goal

-- the parts so far stand in front of those that are left
abbrev pub invariant-loop-decls : goal.invariant-loop-decls
invariant-loop-decls l = IsUntil l.self.source (decl_in l.self.source.bytes.now) ends
    (decls.decl_form (nesting_in l.around)) l.here l.decls l.next

abbrev pub decreases-loop-decls : goal.decreases-loop-decls
decreases-loop-decls l = length l.next.place.rest.now

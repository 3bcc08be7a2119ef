use Rattle.std.proofs.Common.{length}
use Rattle.def_tree.specs.Limits.{in_bracket, opens}
use Rattle.def_decl_reading.specs.Form.{ASign}
use Rattle.def_decl_reading.specs.DeclReading as decls
use Rattle.sl_tree.specs.DeclView.{attr_in}
use Rattle.sl_cursor.specs.Nestings.{nesting_in}
use Rattle.sl_decl.proofs.Looping.{IsMany}
use Rattle.sl_decl.proofs.Looping.{Behind}
use Rattle.sl_decl.proofs.parser.Parser.attrs.Given as goal

-- the attributes so far stand in front of those that are left
abbrev pub invariant-loop-opening : goal.invariant-loop-opening
invariant-loop-opening l =
    let bytes = l.self.source.bytes.now in
    let inside = in_bracket (nesting_in l.around) in
    Behind l.fn.first l.attrs (λ more.
    IsMany l.self.source (attr_in bytes) (ASign "[") (opens inside.brackets) (decls.attr_form inside) l.here more l.next)

abbrev pub decreases-loop-opening : goal.decreases-loop-opening
decreases-loop-opening l = length l.next.place.rest.now

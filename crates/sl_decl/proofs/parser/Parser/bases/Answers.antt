use Rattle.std.proofs.Common.{map, sym, ap}
use Rattle.def_decl_reading.specs.MemberReading as forms
use Rattle.sl_tree.specs.View.{type_in}
use Rattle.sl_cursor.specs.Nestings.{nesting_in}
use Rattle.sl_decl.proofs.Forming.{begun, formed, follows, yes, no, made}
use Rattle.sl_decl.proofs.parser.Parser.bases.Goals as goal

pub returns-in-Some : goal.returns-in-Some
returns-in-Some c =
    let source = c.args.self.now.source in
    let bytes = source.bytes.now in
    follows source (λ types. map (type_in bytes) types) (forms.bases_form (nesting_in c.args.around.now)) c.args.here.now
    c.types.result
    (yes begun c.in-Some.ensures (λ k1. (record { outcome = c.types.ensures })))

pub returns-in-None : goal.returns-in-None
returns-in-None c =
    let source = c.args.self.now.source in
    let bytes = source.bytes.now in
    formed (forms.bases_form (nesting_in c.args.around.now))
    (no c.in-None.ensures (made begun c.requires (λ p. ap (map (type_in bytes)) (sym c.new.ensures))))

use Rattle.std.proofs.Common.{false, refl}
use Rattle.std.specs.Option.{option_map}
use Rattle.def_decl_reading.specs.MemberReading as forms
use Rattle.sl_tree.specs.View.{type_in}
use Rattle.sl_cursor.specs.Nestings.{nesting_in}
use Rattle.sl_decl.proofs.Forming.{begun, formed, stops, yes, no, made_of, made, part_stops, made_stops}
use Rattle.sl_decl.proofs.parser.Parser.bound.Goals as goal

pub returns : goal.returns
returns c =
    let source = c.args.self.now.source in
    let bytes = source.bytes.now in
    formed (forms.maybe_type_form (nesting_in c.args.around.now))
    (yes begun c.in-Some.ensures (λ k1. (made_of k1 c.in_ok-bound.ensures (λ p. refl))))

pub returns-in_err-bound : goal.returns-in_err-bound
returns-in_err-bound c =
    let source = c.args.self.now.source in
    let bytes = source.bytes.now in
    stops false source (λ bound. option_map (type_in bytes) bound) (forms.maybe_type_form (nesting_in c.args.around.now))
    c.args.here.now c.from_residual.result c.in_err-bound.field-0.0 c.from_residual.ensures.1
    (yes begun c.in-Some.ensures (λ k1. (made_stops (part_stops c.in_err-bound.ensures))))

pub returns-in_default : goal.returns-in_default
returns-in_default c =
    let source = c.args.self.now.source in
    let bytes = source.bytes.now in
    formed (forms.maybe_type_form (nesting_in c.args.around.now))
    (no c.in_default.ensures (made begun c.requires (λ p. refl)))

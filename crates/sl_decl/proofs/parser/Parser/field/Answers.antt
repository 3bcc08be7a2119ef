use Rattle.std.proofs.Common.{false, refl}
use Rattle.std.specs.Option.{option_map}
use Rattle.def_decl_reading.specs.MemberReading as forms
use Rattle.sl_token.specs.View.{token_in}
use Rattle.sl_tree.specs.DeclView.{access_in, field_in}
use Rattle.sl_decl.proofs.Forming.{begun, given, formed, stops, behind, made_closed, part_stops, must, first_stops, made_stops}
use Rattle.sl_decl.proofs.parser.Parser.field.Goals as goal

pub returns : goal.returns
returns c =
    let source = c.args.self.now.source in
    let bytes = source.bytes.now in
    λ type o. formed (forms.field_form (option_map (access_in bytes) c.args.access) type (token_in bytes c.args.first))
    (made_closed (given o) c.in_ok-names.ensures c.in_ok-last.ensures (λ p. rw p refl))

pub returns-in_err-names : goal.returns-in_err-names
returns-in_err-names c =
    let source = c.args.self.now.source in
    let bytes = source.bytes.now in
    λ type o. stops false source (field_in bytes) (forms.field_form (option_map (access_in bytes) c.args.access) type
    (token_in bytes c.args.first)) c.args.here.now c.from_residual.result c.in_err-names.field-0.0
    c.from_residual.ensures.1
    (made_stops (first_stops (part_stops c.in_err-names.ensures)))

pub returns-in_err-last : goal.returns-in_err-last
returns-in_err-last c =
    let source = c.args.self.now.source in
    let bytes = source.bytes.now in
    λ type o. stops false source (field_in bytes) (forms.field_form (option_map (access_in bytes) c.args.access) type
    (token_in bytes c.args.first)) c.args.here.now c.from_residual-in_err-last.result c.in_err-last.field-0.0
    c.from_residual-in_err-last.ensures.1
    (made_stops (behind begun c.in_ok-names.ensures (λ t k. must c.in_err-last.ensures)))

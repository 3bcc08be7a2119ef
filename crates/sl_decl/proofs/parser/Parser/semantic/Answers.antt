use Rattle.std.proofs.Common.{false, refl}
use Rattle.std.specs.Option.{option_map}
use Rattle.def_decl_reading.specs.MemberReading as forms
use Rattle.sl_token.specs.View.{token_in}
use Rattle.sl_decl.proofs.Forming.{begun, formed, stops, yes, no, made, must}
use Rattle.sl_decl.proofs.parser.Parser.semantic.Goals as goal

pub returns : goal.returns
returns c =
    let source = c.args.self.now.source in
    let bytes = source.bytes.now in
    formed forms.semantic_form
    (yes begun c.in-Some.ensures (λ k1. (yes k1 c.in_ok-name.ensures (λ k2. (made k2 c.in_ok-name.ensures.behind (λ p.
    refl))))))

pub returns-in_err-name : goal.returns-in_err-name
returns-in_err-name c =
    let source = c.args.self.now.source in
    let bytes = source.bytes.now in
    stops false source (λ name. option_map (token_in bytes) name) forms.semantic_form c.args.here.now
    c.from_residual.result c.in_err-name.field-0.0 c.from_residual.ensures.1
    (yes begun c.in-Some.ensures (λ k1. (must c.in_err-name.ensures)))

pub returns-in_default : goal.returns-in_default
returns-in_default c =
    let source = c.args.self.now.source in
    let bytes = source.bytes.now in
    formed forms.semantic_form
    (no c.in_default.ensures (made begun c.requires (λ p. refl)))

use Rattle.std.proofs.Common.{false, refl}
use Rattle.std.specs.Option.{option_map}
use Rattle.def_decl_reading.specs.MemberReading as forms
use Rattle.sl_token.specs.View.{token_in}
use Rattle.sl_tree.specs.DeclView.{tail_in}
use Rattle.sl_cursor.specs.Nestings.{nesting_in}
use Rattle.sl_decl.proofs.Forming.{given, formed, stops, made_of, inside_read, inside_stops, made_stops}
use Rattle.sl_decl.proofs.parser.Parser.called.Goals as goal

pub returns : goal.returns
returns c =
    let source = c.args.self.now.source in
    let bytes = source.bytes.now in
    λ type o. formed (forms.called_form (nesting_in c.args.around.now) (option_map (token_in bytes) c.args.static_) type
    (token_in bytes c.args.name))
    (made_of (given o) (inside_read forms.args_form c.in_bracket.ensures c.in_ok-args.ensures) (λ p. rw p refl))

pub returns-in_err-args : goal.returns-in_err-args
returns-in_err-args c =
    let source = c.args.self.now.source in
    let bytes = source.bytes.now in
    λ type o. stops false source (tail_in bytes) (forms.called_form (nesting_in c.args.around.now)
    (option_map (token_in bytes) c.args.static_) type (token_in bytes c.args.name)) c.args.here.now c.from_residual.result
    c.in_err-args.field-0.0 c.from_residual.ensures.1
    (made_stops (inside_stops forms.args_form c.in_bracket.ensures c.in_err-args.ensures))

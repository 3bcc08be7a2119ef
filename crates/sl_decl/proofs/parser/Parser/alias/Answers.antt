use Rattle.std.proofs.Common.{false, refl}
use Rattle.std.specs.Option.{option_map}
use Rattle.def_decl_reading.specs.MemberReading as forms
use Rattle.sl_token.specs.View.{token_in}
use Rattle.sl_tree.specs.DeclView.{access_in, alias_in}
use Rattle.sl_cursor.specs.Nestings.{nesting_in}
use Rattle.sl_decl.proofs.Forming.{begun, formed, stops, yes, behind, made_closed, part_stops, must, first_stops, made_stops}
use Rattle.sl_decl.proofs.parser.Parser.alias.Goals as goal

pub returns : goal.returns
returns c =
    let source = c.args.self.now.source in
    let bytes = source.bytes.now in
    formed (forms.alias_form (nesting_in c.args.around.now) (option_map (access_in bytes) c.args.access)
    (token_in bytes c.args.word))
    (yes begun c.in_ok-name.ensures (λ k1. (yes k1 c.in_ok-next.ensures (λ k2.
    (made_closed k2 c.in_ok-type_.ensures c.in_ok-last.ensures (λ p. refl))))))

pub returns-in_err-name : goal.returns-in_err-name
returns-in_err-name c =
    let source = c.args.self.now.source in
    let bytes = source.bytes.now in
    stops false source (alias_in bytes) (forms.alias_form (nesting_in c.args.around.now)
    (option_map (access_in bytes) c.args.access) (token_in bytes c.args.word)) c.args.here.now c.from_residual.result
    c.in_err-name.field-0.0 c.from_residual.ensures.1
    (must c.in_err-name.ensures)

pub returns-in_err-next : goal.returns-in_err-next
returns-in_err-next c =
    let source = c.args.self.now.source in
    let bytes = source.bytes.now in
    stops false source (alias_in bytes) (forms.alias_form (nesting_in c.args.around.now)
    (option_map (access_in bytes) c.args.access) (token_in bytes c.args.word)) c.args.here.now
    c.from_residual-in_err-next.result c.in_err-next.field-0.0 c.from_residual-in_err-next.ensures.1
    (yes begun c.in_ok-name.ensures (λ k1. (must c.in_err-next.ensures)))

pub returns-in_err-type_ : goal.returns-in_err-type_
returns-in_err-type_ c =
    let source = c.args.self.now.source in
    let bytes = source.bytes.now in
    stops false source (alias_in bytes) (forms.alias_form (nesting_in c.args.around.now)
    (option_map (access_in bytes) c.args.access) (token_in bytes c.args.word)) c.args.here.now
    c.from_residual-in_err-type_.result c.in_err-type_.field-0.0 c.from_residual-in_err-type_.ensures.1
    (yes begun c.in_ok-name.ensures (λ k1. (yes k1 c.in_ok-next.ensures (λ k2.
    (made_stops (first_stops (part_stops c.in_err-type_.ensures)))))))

pub returns-in_err-last : goal.returns-in_err-last
returns-in_err-last c =
    let source = c.args.self.now.source in
    let bytes = source.bytes.now in
    stops false source (alias_in bytes) (forms.alias_form (nesting_in c.args.around.now)
    (option_map (access_in bytes) c.args.access) (token_in bytes c.args.word)) c.args.here.now
    c.from_residual-in_err-last.result c.in_err-last.field-0.0 c.from_residual-in_err-last.ensures.1
    (yes begun c.in_ok-name.ensures (λ k1. (yes k1 c.in_ok-next.ensures (λ k2.
    (made_stops (behind begun c.in_ok-type_.ensures (λ t k. must c.in_err-last.ensures)))))))

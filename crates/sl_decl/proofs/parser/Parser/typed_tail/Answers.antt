use Rattle.std.proofs.Common.{false}
use Rattle.std.specs.Option.{option_map}
use Rattle.def_decl_reading.specs.MemberReading as forms
use Rattle.sl_token.specs.View.{token_in}
use Rattle.sl_tree.specs.DeclView.{tail_in}
use Rattle.sl_cursor.specs.Nestings.{nesting_in}
use Rattle.sl_decl.proofs.Forming.{begun, follows, stops, yes, behind, part_stops, must, first_stops}
use Rattle.sl_decl.proofs.parser.Parser.typed_tail.Goals as goal

pub returns : goal.returns
returns c =
    let source = c.args.self.now.source in
    let bytes = source.bytes.now in
    follows source (tail_in bytes) (forms.typed_form (nesting_in c.args.around.now)
    (option_map (token_in bytes) c.args.static_)) c.args.here.now c.called.result
    (behind begun c.in_ok-type_.ensures (λ t1 k1. (yes k1 c.in_ok-name.ensures (λ k2.
    (yes k2 c.in_ok-inside.ensures (λ k3. (record { outcome = c.called.ensures t1 (λ h. (k3.holds h).0) })))))))

pub returns-in_err-type_ : goal.returns-in_err-type_
returns-in_err-type_ c =
    let source = c.args.self.now.source in
    let bytes = source.bytes.now in
    stops false source (tail_in bytes) (forms.typed_form (nesting_in c.args.around.now)
    (option_map (token_in bytes) c.args.static_)) c.args.here.now c.from_residual.result c.in_err-type_.field-0.0
    c.from_residual.ensures.1
    (first_stops (part_stops c.in_err-type_.ensures))

pub returns-in_err-name : goal.returns-in_err-name
returns-in_err-name c =
    let source = c.args.self.now.source in
    let bytes = source.bytes.now in
    stops false source (tail_in bytes) (forms.typed_form (nesting_in c.args.around.now)
    (option_map (token_in bytes) c.args.static_)) c.args.here.now c.from_residual-in_err-name.result
    c.in_err-name.field-0.0 c.from_residual-in_err-name.ensures.1
    (behind begun c.in_ok-type_.ensures (λ t1 k1. (must c.in_err-name.ensures)))

pub returns-in_err-inside : goal.returns-in_err-inside
returns-in_err-inside c =
    let source = c.args.self.now.source in
    let bytes = source.bytes.now in
    stops false source (tail_in bytes) (forms.typed_form (nesting_in c.args.around.now)
    (option_map (token_in bytes) c.args.static_)) c.args.here.now c.from_residual-in_err-inside.result
    c.in_err-inside.field-0.0 c.from_residual-in_err-inside.ensures.1
    (behind begun c.in_ok-type_.ensures (λ t1 k1. (yes k1 c.in_ok-name.ensures (λ k2. (must c.in_err-inside.ensures)))))

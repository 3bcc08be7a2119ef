use Rattle.std.proofs.Common.{true, refl}
use Rattle.std.specs.Prelude.{None}
use Rattle.std.specs.Option.{option_map}
use Rattle.def_decl_reading.specs.MemberReading as forms
use Rattle.sl_token.specs.View.{token_in}
use Rattle.sl_tree.specs.DeclView.{access_in, member_in}
use Rattle.sl_tree.specs.View.{type_in}
use Rattle.sl_cursor.specs.Nestings.{nesting_in}
use Rattle.sl_decl.proofs.Forming.{begun, formed, stops, yes, no, behind, made_of, part_stops, block_stops, must, first_stops, made_stops}
use Rattle.sl_decl.proofs.parser.Parser.typed_member.Goals as goal

pub returns-in_default : goal.returns-in_default
returns-in_default c =
    let source = c.args.self.now.source in
    let bytes = source.bytes.now in
    formed (forms.typed_member (nesting_in c.args.around.now) (option_map (access_in bytes) c.args.access))
    (behind begun c.in_ok-type_.ensures (λ t1 k1. (yes k1 c.in_ok-name.ensures (λ k2.
    (no c.in_default.ensures (made_of k2 (c.in_ok-field.ensures t1 (λ h. (k2.holds h).0)) (λ p. refl)))))))

pub returns-in_err-type_ : goal.returns-in_err-type_
returns-in_err-type_ c =
    let source = c.args.self.now.source in
    let bytes = source.bytes.now in
    stops true source (member_in bytes) (forms.typed_member (nesting_in c.args.around.now)
    (option_map (access_in bytes) c.args.access)) c.args.here.now c.from_residual.result c.in_err-type_.field-0.0
    c.from_residual.ensures.1
    (first_stops (part_stops c.in_err-type_.ensures))

pub returns-in_err-name : goal.returns-in_err-name
returns-in_err-name c =
    let source = c.args.self.now.source in
    let bytes = source.bytes.now in
    stops true source (member_in bytes) (forms.typed_member (nesting_in c.args.around.now)
    (option_map (access_in bytes) c.args.access)) c.args.here.now c.from_residual-in_err-name.result
    c.in_err-name.field-0.0 c.from_residual-in_err-name.ensures.1
    (behind begun c.in_ok-type_.ensures (λ t1 k1. (must c.in_err-name.ensures)))

pub returns-in_err-field : goal.returns-in_err-field
returns-in_err-field c =
    let source = c.args.self.now.source in
    let bytes = source.bytes.now in
    stops true source (member_in bytes) (forms.typed_member (nesting_in c.args.around.now)
    (option_map (access_in bytes) c.args.access)) c.args.here.now c.from_residual-in_err-field.result
    c.in_err-field.field-0.0 c.from_residual-in_err-field.ensures.1
    (behind begun c.in_ok-type_.ensures (λ t1 k1. (yes k1 c.in_ok-name.ensures (λ k2.
    (no c.in_default.ensures (made_stops (part_stops (c.in_err-field.ensures t1 (λ h. (k2.holds h).0)))))))))

pub returns : goal.returns
returns c =
    let source = c.args.self.now.source in
    let bytes = source.bytes.now in
    formed (forms.typed_member (nesting_in c.args.around.now) (option_map (access_in bytes) c.args.access))
    (behind begun c.in_ok-type_.ensures (λ t1 k1. (yes k1 c.in_ok-name.ensures (λ k2. (yes k2 c.in-Some.ensures (λ k3.
    (made_of {form = forms.method_form (nesting_in c.args.around.now) None (option_map (access_in bytes) c.args.access)
    None (forms.called_form (nesting_in c.args.around.now) None t1 (token_in bytes c.in_ok-name.name))} k3
    (formed (forms.method_form (nesting_in c.args.around.now) None (option_map (access_in bytes) c.args.access) None
    (forms.called_form (nesting_in c.args.around.now) None t1 (token_in bytes c.in_ok-name.name)))
    (behind begun (c.in_ok-tail.ensures t1 (λ h. (k3.holds h).0)) (λ t k.
    record { outcome = c.in_ok-method.ensures t (λ h. (k.holds h).0) }))) (λ p. refl))))))))

pub returns-in_err-tail : goal.returns-in_err-tail
returns-in_err-tail c =
    let source = c.args.self.now.source in
    let bytes = source.bytes.now in
    stops true source (member_in bytes) (forms.typed_member (nesting_in c.args.around.now)
    (option_map (access_in bytes) c.args.access)) c.args.here.now c.from_residual-in_err-tail.result
    c.in_err-tail.field-0.0 c.from_residual-in_err-tail.ensures.1
    (behind begun c.in_ok-type_.ensures (λ t1 k1. (yes k1 c.in_ok-name.ensures (λ k2. (yes k2 c.in-Some.ensures (λ k3.
    (made_stops (first_stops (part_stops (c.in_err-tail.ensures t1 (λ h. (k3.holds h).0)))))))))))

pub returns-in_err-method : goal.returns-in_err-method
returns-in_err-method c =
    let source = c.args.self.now.source in
    let bytes = source.bytes.now in
    stops true source (member_in bytes) (forms.typed_member (nesting_in c.args.around.now)
    (option_map (access_in bytes) c.args.access)) c.args.here.now c.from_residual-in_err-method.result
    c.in_err-method.field-0.0 c.from_residual-in_err-method.ensures.1
    (behind begun c.in_ok-type_.ensures (λ t1 k1. (yes k1 c.in_ok-name.ensures (λ k2. (yes k2 c.in-Some.ensures (λ k3.
    (made_stops (behind begun (c.in_ok-tail.ensures t1 (λ h. (k3.holds h).0)) (λ t k.
    block_stops (c.in_err-method.ensures t (λ h. (k.holds h).0)))))))))))

pub bodied-requires-clause-at : goal.bodied-requires-clause-at
bodied-requires-clause-at c =
    (c.in_ok-tail.ensures (type_in c.args.self.now.source.bytes.now c.in_ok-type_.type_) (λ h. refl)).behind

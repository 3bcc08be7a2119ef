use Rattle.std.proofs.Common.{true, refl}
use Rattle.std.specs.Option.{option_map}
use Rattle.def_decl_reading.specs.MemberReading as forms
use Rattle.sl_tree.specs.DeclView.{access_in, member_in}
use Rattle.sl_cursor.specs.Nestings.{nesting_in}
use Rattle.sl_decl.proofs.Forming.{begun, formed, settles, stops, yes, no, made_of, part_stops, block_stops, made_stops}
use Rattle.sl_decl.proofs.parser.Parser.accessed_member.Goals as goal

pub returns-in-Some : goal.returns-in-Some
returns-in-Some c =
    let source = c.args.self.now.source in
    let bytes = source.bytes.now in
    formed (forms.accessed_member (nesting_in c.args.around.now) (option_map (access_in bytes) c.args.access))
    (yes begun c.in-Some.ensures (λ k1. (made_of k1 c.in_ok-alias.ensures (λ p. refl))))

pub returns-in_err-alias : goal.returns-in_err-alias
returns-in_err-alias c =
    let source = c.args.self.now.source in
    let bytes = source.bytes.now in
    stops true source (member_in bytes) (forms.accessed_member (nesting_in c.args.around.now)
    (option_map (access_in bytes) c.args.access)) c.args.here.now c.from_residual.result c.in_err-alias.field-0.0
    c.from_residual.ensures.1
    (yes begun c.in-Some.ensures (λ k1. (made_stops (part_stops c.in_err-alias.ensures))))

pub returns-in-Some-sign : goal.returns-in-Some-sign
returns-in-Some-sign c =
    let source = c.args.self.now.source in
    let bytes = source.bytes.now in
    formed (forms.accessed_member (nesting_in c.args.around.now) (option_map (access_in bytes) c.args.access))
    (no c.in_default.ensures (yes begun c.in-Some-sign.ensures (λ k1. (made_of k1 c.in_ok-method.ensures (λ p. refl)))))

pub returns-in_err-method : goal.returns-in_err-method
returns-in_err-method c =
    let source = c.args.self.now.source in
    let bytes = source.bytes.now in
    stops true source (member_in bytes) (forms.accessed_member (nesting_in c.args.around.now)
    (option_map (access_in bytes) c.args.access)) c.args.here.now c.from_residual-in_err-method.result
    c.in_err-method.field-0.0 c.from_residual-in_err-method.ensures.1
    (no c.in_default.ensures (yes begun c.in-Some-sign.ensures
    (λ k1. (made_stops (block_stops c.in_err-method.ensures)))))

pub returns-in-Some-sign-2 : goal.returns-in-Some-sign-2
returns-in-Some-sign-2 c =
    let source = c.args.self.now.source in
    let bytes = source.bytes.now in
    formed (forms.accessed_member (nesting_in c.args.around.now) (option_map (access_in bytes) c.args.access))
    (no c.in_default.ensures (no c.in_default-sign.ensures (yes begun c.in-Some-sign-2.ensures (λ k1.
    (made_of k1 c.in_ok-method-2.ensures (λ p. refl))))))

pub returns-in_err-method-2 : goal.returns-in_err-method-2
returns-in_err-method-2 c =
    let source = c.args.self.now.source in
    let bytes = source.bytes.now in
    stops true source (member_in bytes) (forms.accessed_member (nesting_in c.args.around.now)
    (option_map (access_in bytes) c.args.access)) c.args.here.now c.from_residual-in_err-method-2.result
    c.in_err-method-2.field-0.0 c.from_residual-in_err-method-2.ensures.1
    (no c.in_default.ensures (no c.in_default-sign.ensures (yes begun c.in-Some-sign-2.ensures (λ k1.
    (made_stops (block_stops c.in_err-method-2.ensures))))))

pub returns : goal.returns
returns c =
    let source = c.args.self.now.source in
    let bytes = source.bytes.now in
    settles source (member_in bytes) (forms.accessed_member (nesting_in c.args.around.now)
    (option_map (access_in bytes) c.args.access)) c.args.here.now c.typed_member.result
    (no c.in_default.ensures (no c.in_default-sign.ensures (no c.in_default-sign-2.ensures
    (record { outcome = c.typed_member.ensures }))))

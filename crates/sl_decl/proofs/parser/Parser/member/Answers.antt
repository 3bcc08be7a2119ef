use Rattle.std.proofs.Common.{true, refl}
use Rattle.def_decl_reading.specs.MemberReading as forms
use Rattle.sl_tree.specs.DeclView.{member_in}
use Rattle.sl_cursor.specs.Nestings.{nesting_in}
use Rattle.sl_decl.proofs.Forming.{begun, formed, settles, stops, yes, no, taken, made_of, block_stops, made_stops}
use Rattle.sl_decl.proofs.parser.Parser.member.Goals as goal

pub returns : goal.returns
returns c =
    let source = c.args.self.now.source in
    let bytes = source.bytes.now in
    settles source (member_in bytes) (forms.member_form (nesting_in c.args.around.now)) c.args.here.now
    c.accessed_member.result
    (no c.in_default.ensures (taken begun c.access-access.ensures
    (λ k1. (record { outcome = c.accessed_member.ensures }))))

pub returns-in-Some : goal.returns-in-Some
returns-in-Some c =
    let source = c.args.self.now.source in
    let bytes = source.bytes.now in
    formed (forms.member_form (nesting_in c.args.around.now))
    (yes begun c.in-Some.ensures (λ k1. (made_of k1 c.in_ok-method.ensures (λ p. refl))))

pub returns-in_err-method : goal.returns-in_err-method
returns-in_err-method c =
    let source = c.args.self.now.source in
    let bytes = source.bytes.now in
    stops true source (member_in bytes) (forms.member_form (nesting_in c.args.around.now)) c.args.here.now
    c.from_residual.result c.in_err-method.field-0.0 c.from_residual.ensures.1
    (yes begun c.in-Some.ensures (λ k1. (made_stops (block_stops c.in_err-method.ensures))))

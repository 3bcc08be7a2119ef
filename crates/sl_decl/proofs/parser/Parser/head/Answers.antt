use Rattle.std.proofs.Common.{false, refl}
use Rattle.def_decl_reading.specs.MemberReading as forms
use Rattle.sl_tree.specs.DeclView.{head_in}
use Rattle.sl_cursor.specs.Nestings.{nesting_in}
use Rattle.sl_decl.proofs.Forming.{begun, formed, stops, taken, made_of, part_stops, first_stops, made_stops}
use Rattle.sl_decl.proofs.parser.Parser.head.Goals as goal

pub returns : goal.returns
returns c =
    let source = c.args.self.now.source in
    let bytes = source.bytes.now in
    formed (forms.head_form (nesting_in c.args.around.now))
    (taken begun c.in_ok-mutating.ensures (λ k1. (taken k1 c.access-access.ensures (λ k2.
    (made_of k2 c.in_ok-tail.ensures (λ p. refl))))))

pub returns-in_err-mutating : goal.returns-in_err-mutating
returns-in_err-mutating c =
    let source = c.args.self.now.source in
    let bytes = source.bytes.now in
    stops false source (head_in bytes) (forms.head_form (nesting_in c.args.around.now)) c.args.here.now
    c.from_residual.result c.in_err-mutating.field-0.0 c.from_residual.ensures.1
    (first_stops (part_stops c.in_err-mutating.ensures))

pub returns-in_err-tail : goal.returns-in_err-tail
returns-in_err-tail c =
    let source = c.args.self.now.source in
    let bytes = source.bytes.now in
    stops false source (head_in bytes) (forms.head_form (nesting_in c.args.around.now)) c.args.here.now
    c.from_residual-in_err-tail.result c.in_err-tail.field-0.0 c.from_residual-in_err-tail.ensures.1
    (taken begun c.in_ok-mutating.ensures (λ k1. (taken k1 c.access-access.ensures (λ k2.
    (made_stops (part_stops c.in_err-tail.ensures))))))

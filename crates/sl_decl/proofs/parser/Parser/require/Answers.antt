use Rattle.std.proofs.Common.{true, refl}
use Rattle.def_decl_reading.specs.MemberReading as forms
use Rattle.sl_tree.specs.DeclView.{require_in}
use Rattle.sl_cursor.specs.Nestings.{nesting_in}
use Rattle.sl_decl.proofs.Forming.{begun, formed, stops, behind, made_of, part_stops, block_stops, first_stops, made_stops}
use Rattle.sl_decl.proofs.parser.Parser.require.Goals as goal

pub returns : goal.returns
returns c =
    let source = c.args.self.now.source in
    let bytes = source.bytes.now in
    formed (forms.require_form (nesting_in c.args.around.now))
    (behind begun c.in_ok-head.ensures (λ t1 k1. (made_of k1 c.in_ok-body.ensures (λ p. rw p.0 refl))))

pub returns-in_err-head : goal.returns-in_err-head
returns-in_err-head c =
    let source = c.args.self.now.source in
    let bytes = source.bytes.now in
    stops true source (require_in bytes) (forms.require_form (nesting_in c.args.around.now)) c.args.here.now
    c.from_residual.result c.in_err-head.field-0.0 c.from_residual.ensures.1
    (first_stops (part_stops c.in_err-head.ensures))

pub returns-in_err-body : goal.returns-in_err-body
returns-in_err-body c =
    let source = c.args.self.now.source in
    let bytes = source.bytes.now in
    stops true source (require_in bytes) (forms.require_form (nesting_in c.args.around.now)) c.args.here.now
    c.from_residual-in_err-body.result c.in_err-body.field-0.0 c.from_residual-in_err-body.ensures.1
    (behind begun c.in_ok-head.ensures (λ t1 k1. (made_stops (block_stops c.in_err-body.ensures))))

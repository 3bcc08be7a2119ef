use Rattle.std.proofs.Common.{false, refl}
use Rattle.def_decl_reading.specs.MemberReading as forms
use Rattle.sl_token.specs.View.{token_in}
use Rattle.sl_tree.specs.DeclView.{where_in}
use Rattle.sl_cursor.specs.Nestings.{nesting_in}
use Rattle.sl_decl.proofs.Forming.{begun, formed, stops, yes, behind, made_of, part_stops, must, first_stops, made_stops}
use Rattle.sl_decl.proofs.parser.Parser.condition.Goals as goal

pub returns : goal.returns
returns c =
    let source = c.args.self.now.source in
    let bytes = source.bytes.now in
    formed (forms.where_form (nesting_in c.args.around.now) (token_in bytes c.args.word))
    (behind begun c.in_ok-type_.ensures (λ t1 k1. (yes k1 c.in_ok-next.ensures (λ k2.
    (made_of k2 c.in_ok-bounds.ensures (λ p. rw p.0 refl))))))

pub returns-in_err-type_ : goal.returns-in_err-type_
returns-in_err-type_ c =
    let source = c.args.self.now.source in
    let bytes = source.bytes.now in
    stops false source (where_in bytes) (forms.where_form (nesting_in c.args.around.now) (token_in bytes c.args.word))
    c.args.here.now c.from_residual.result c.in_err-type_.field-0.0 c.from_residual.ensures.1
    (first_stops (part_stops c.in_err-type_.ensures))

pub returns-in_err-next : goal.returns-in_err-next
returns-in_err-next c =
    let source = c.args.self.now.source in
    let bytes = source.bytes.now in
    stops false source (where_in bytes) (forms.where_form (nesting_in c.args.around.now) (token_in bytes c.args.word))
    c.args.here.now c.from_residual-in_err-next.result c.in_err-next.field-0.0 c.from_residual-in_err-next.ensures.1
    (behind begun c.in_ok-type_.ensures (λ t1 k1. (must c.in_err-next.ensures)))

pub returns-in_err-bounds : goal.returns-in_err-bounds
returns-in_err-bounds c =
    let source = c.args.self.now.source in
    let bytes = source.bytes.now in
    stops false source (where_in bytes) (forms.where_form (nesting_in c.args.around.now) (token_in bytes c.args.word))
    c.args.here.now c.from_residual-in_err-bounds.result c.in_err-bounds.field-0.0 c.from_residual-in_err-bounds.ensures.1
    (behind begun c.in_ok-type_.ensures (λ t1 k1. (yes k1 c.in_ok-next.ensures (λ k2.
    (made_stops (part_stops c.in_err-bounds.ensures))))))

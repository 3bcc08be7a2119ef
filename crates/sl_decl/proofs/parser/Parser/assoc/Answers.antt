use Rattle.std.proofs.Common.{false, refl}
use Rattle.def_decl_reading.specs.MemberReading as forms
use Rattle.sl_token.specs.View.{token_in}
use Rattle.sl_tree.specs.DeclView.{assoc_in}
use Rattle.sl_cursor.specs.Nestings.{nesting_in}
use Rattle.sl_decl.proofs.Forming.{begun, formed, stops, yes, behind, made_closed, part_stops, must, first_stops, made_stops}
use Rattle.sl_decl.proofs.parser.Parser.assoc.Goals as goal

pub returns : goal.returns
returns c =
    let source = c.args.self.now.source in
    let bytes = source.bytes.now in
    formed (forms.assoc_form (nesting_in c.args.around.now) (token_in bytes c.args.word))
    (yes begun c.in_ok-name.ensures (λ k1. (made_closed k1 c.in_ok-bases.ensures c.in_ok-last.ensures (λ p. refl))))

pub returns-in_err-name : goal.returns-in_err-name
returns-in_err-name c =
    let source = c.args.self.now.source in
    let bytes = source.bytes.now in
    stops false source (assoc_in bytes) (forms.assoc_form (nesting_in c.args.around.now) (token_in bytes c.args.word))
    c.args.here.now c.from_residual.result c.in_err-name.field-0.0 c.from_residual.ensures.1
    (must c.in_err-name.ensures)

pub returns-in_err-bases : goal.returns-in_err-bases
returns-in_err-bases c =
    let source = c.args.self.now.source in
    let bytes = source.bytes.now in
    stops false source (assoc_in bytes) (forms.assoc_form (nesting_in c.args.around.now) (token_in bytes c.args.word))
    c.args.here.now c.from_residual-in_err-bases.result c.in_err-bases.field-0.0 c.from_residual-in_err-bases.ensures.1
    (yes begun c.in_ok-name.ensures (λ k1. (made_stops (first_stops (part_stops c.in_err-bases.ensures)))))

pub returns-in_err-last : goal.returns-in_err-last
returns-in_err-last c =
    let source = c.args.self.now.source in
    let bytes = source.bytes.now in
    stops false source (assoc_in bytes) (forms.assoc_form (nesting_in c.args.around.now) (token_in bytes c.args.word))
    c.args.here.now c.from_residual-in_err-last.result c.in_err-last.field-0.0 c.from_residual-in_err-last.ensures.1
    (yes begun c.in_ok-name.ensures (λ k1. (made_stops (behind begun c.in_ok-bases.ensures (λ t k.
    must c.in_err-last.ensures)))))

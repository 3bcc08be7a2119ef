use Rattle.std.proofs.Common.{false, map, sym, ap}
use Rattle.def_decl_reading.specs.MemberReading as forms
use Rattle.sl_tree.specs.DeclView.{param_in}
use Rattle.sl_cursor.specs.Nestings.{nesting_in}
use Rattle.sl_decl.proofs.Forming.{begun, formed, stops, yes, no, behind, made, closes, part_stops, must, first_stops}
use Rattle.sl_decl.proofs.parser.Parser.params.Goals as goal

pub returns : goal.returns
returns c =
    let source = c.args.self.now.source in
    let bytes = source.bytes.now in
    formed (forms.params_form (nesting_in c.args.around.now))
    (yes begun c.in-Some.ensures (λ k1. (closes c.in_ok-params.ensures c.in_ok-last.ensures)))

pub returns-in_err-params : goal.returns-in_err-params
returns-in_err-params c =
    let source = c.args.self.now.source in
    let bytes = source.bytes.now in
    stops false source (λ params. map (param_in bytes) params) (forms.params_form (nesting_in c.args.around.now))
    c.args.here.now c.from_residual.result c.in_err-params.field-0.0 c.from_residual.ensures.1
    (yes begun c.in-Some.ensures (λ k1. (first_stops (part_stops c.in_err-params.ensures))))

pub returns-in_err-last : goal.returns-in_err-last
returns-in_err-last c =
    let source = c.args.self.now.source in
    let bytes = source.bytes.now in
    stops false source (λ params. map (param_in bytes) params) (forms.params_form (nesting_in c.args.around.now))
    c.args.here.now c.from_residual-in_err-last.result c.in_err-last.field-0.0 c.from_residual-in_err-last.ensures.1
    (yes begun c.in-Some.ensures (λ k1. (behind begun c.in_ok-params.ensures (λ t k. must c.in_err-last.ensures))))

pub returns-in_default : goal.returns-in_default
returns-in_default c =
    let source = c.args.self.now.source in
    let bytes = source.bytes.now in
    formed (forms.params_form (nesting_in c.args.around.now))
    (no c.in_default.ensures (made begun c.requires (λ p. ap (map (param_in bytes)) (sym c.new.ensures))))

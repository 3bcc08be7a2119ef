use Rattle.std.proofs.Common.{false, refl}
use Rattle.def_decl_reading.specs.MemberReading as forms
use Rattle.sl_tree.specs.DeclView.{param_in}
use Rattle.sl_cursor.specs.Nestings.{nesting_in}
use Rattle.sl_decl.proofs.Forming.{begun, formed, stops, yes, made_of, part_stops, must, made_stops}
use Rattle.sl_decl.proofs.parser.Parser.param.Goals as goal

pub returns : goal.returns
returns c =
    let source = c.args.self.now.source in
    let bytes = source.bytes.now in
    formed (forms.param_form (nesting_in c.args.around.now))
    (yes begun c.in_ok-name.ensures (λ k1. (made_of k1 c.in_ok-bound.ensures (λ p. refl))))

pub returns-in_err-name : goal.returns-in_err-name
returns-in_err-name c =
    let source = c.args.self.now.source in
    let bytes = source.bytes.now in
    stops false source (param_in bytes) (forms.param_form (nesting_in c.args.around.now)) c.args.here.now
    c.from_residual.result c.in_err-name.field-0.0 c.from_residual.ensures.1
    (must c.in_err-name.ensures)

pub returns-in_err-bound : goal.returns-in_err-bound
returns-in_err-bound c =
    let source = c.args.self.now.source in
    let bytes = source.bytes.now in
    stops false source (param_in bytes) (forms.param_form (nesting_in c.args.around.now)) c.args.here.now
    c.from_residual-in_err-bound.result c.in_err-bound.field-0.0 c.from_residual-in_err-bound.ensures.1
    (yes begun c.in_ok-name.ensures (λ k1. (made_stops (part_stops c.in_err-bound.ensures))))

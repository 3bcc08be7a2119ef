use Rattle.std.proofs.Common.{false, refl}
use Rattle.def_decl_reading.specs.MemberReading as forms
use Rattle.sl_tree.specs.DeclView.{arg_in}
use Rattle.sl_cursor.specs.Nestings.{nesting_in}
use Rattle.sl_decl.proofs.Forming.{begun, formed, stops, yes, behind, taken, made_of, part_stops, must, first_stops, made_stops}
use Rattle.sl_decl.proofs.parser.Parser.arg.Goals as goal

pub returns : goal.returns
returns c =
    let source = c.args.self.now.source in
    let bytes = source.bytes.now in
    formed (forms.arg_form (nesting_in c.args.around.now))
    (taken begun c.mode-mode.ensures (λ k1. (behind k1 c.in_ok-type_.ensures (λ t2 k2. (yes k2 c.in_ok-name.ensures (λ k3.
    (made_of k3 c.in_ok-semantic.ensures (λ p. rw p.0 refl))))))))

pub returns-in_err-type_ : goal.returns-in_err-type_
returns-in_err-type_ c =
    let source = c.args.self.now.source in
    let bytes = source.bytes.now in
    stops false source (arg_in bytes) (forms.arg_form (nesting_in c.args.around.now)) c.args.here.now
    c.from_residual.result c.in_err-type_.field-0.0 c.from_residual.ensures.1
    (taken begun c.mode-mode.ensures (λ k1. (first_stops (part_stops c.in_err-type_.ensures))))

pub returns-in_err-name : goal.returns-in_err-name
returns-in_err-name c =
    let source = c.args.self.now.source in
    let bytes = source.bytes.now in
    stops false source (arg_in bytes) (forms.arg_form (nesting_in c.args.around.now)) c.args.here.now
    c.from_residual-in_err-name.result c.in_err-name.field-0.0 c.from_residual-in_err-name.ensures.1
    (taken begun c.mode-mode.ensures (λ k1. (behind k1 c.in_ok-type_.ensures (λ t2 k2. (must c.in_err-name.ensures)))))

pub returns-in_err-semantic : goal.returns-in_err-semantic
returns-in_err-semantic c =
    let source = c.args.self.now.source in
    let bytes = source.bytes.now in
    stops false source (arg_in bytes) (forms.arg_form (nesting_in c.args.around.now)) c.args.here.now
    c.from_residual-in_err-semantic.result c.in_err-semantic.field-0.0 c.from_residual-in_err-semantic.ensures.1
    (taken begun c.mode-mode.ensures (λ k1. (behind k1 c.in_ok-type_.ensures (λ t2 k2. (yes k2 c.in_ok-name.ensures (λ k3.
    (made_stops (part_stops c.in_err-semantic.ensures))))))))

use Rattle.std.proofs.Common.{false, map, sym, ap}
use Rattle.def_decl_reading.specs.MemberReading as forms
use Rattle.sl_tree.specs.DeclView.{arg_in}
use Rattle.sl_cursor.specs.Nestings.{nesting_in}
use Rattle.sl_decl.proofs.Forming.{begun, formed, stops, yes, no, behind, made, closes, part_stops, must, first_stops}
use Rattle.sl_decl.proofs.parser.Parser.args.Goals as goal

pub returns : goal.returns
returns c =
    let source = c.args.self.now.source in
    let bytes = source.bytes.now in
    formed (forms.args_form (nesting_in c.args.around.now))
    (no c.in_default.ensures (closes c.in_ok-args.ensures c.in_ok-last.ensures))

pub returns-in_err-args : goal.returns-in_err-args
returns-in_err-args c =
    let source = c.args.self.now.source in
    let bytes = source.bytes.now in
    stops false source (λ args. map (arg_in bytes) args) (forms.args_form (nesting_in c.args.around.now)) c.args.here.now
    c.from_residual.result c.in_err-args.field-0.0 c.from_residual.ensures.1
    (no c.in_default.ensures (first_stops (part_stops c.in_err-args.ensures)))

pub returns-in_err-last : goal.returns-in_err-last
returns-in_err-last c =
    let source = c.args.self.now.source in
    let bytes = source.bytes.now in
    stops false source (λ args. map (arg_in bytes) args) (forms.args_form (nesting_in c.args.around.now)) c.args.here.now
    c.from_residual-in_err-last.result c.in_err-last.field-0.0 c.from_residual-in_err-last.ensures.1
    (no c.in_default.ensures (behind begun c.in_ok-args.ensures (λ t k. must c.in_err-last.ensures)))

pub returns-in-Some : goal.returns-in-Some
returns-in-Some c =
    let source = c.args.self.now.source in
    let bytes = source.bytes.now in
    formed (forms.args_form (nesting_in c.args.around.now))
    (yes begun c.in-Some.ensures (λ k1. (made k1 c.in-Some.ensures.behind (λ p.
    ap (map (arg_in bytes)) (sym c.new.ensures)))))

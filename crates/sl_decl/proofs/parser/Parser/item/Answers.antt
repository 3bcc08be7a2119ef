use Rattle.std.proofs.Common.{true, refl}
use Rattle.def_decl_reading.specs.MemberReading as forms
use Rattle.sl_tree.specs.DeclView.{item_in}
use Rattle.sl_cursor.specs.Nestings.{nesting_in}
use Rattle.sl_decl.proofs.Forming.{begun, formed, stops, yes, no, made_of, part_stops, block_stops, made_stops}
use Rattle.sl_decl.proofs.parser.Parser.item.Goals as goal

pub returns : goal.returns
returns c =
    let source = c.args.self.now.source in
    let bytes = source.bytes.now in
    formed (forms.item_form (nesting_in c.args.around.now))
    (no c.in_default.ensures (made_of begun c.in_ok-require.ensures (λ p. refl)))

pub returns-in_err-require : goal.returns-in_err-require
returns-in_err-require c =
    let source = c.args.self.now.source in
    let bytes = source.bytes.now in
    stops true source (item_in bytes) (forms.item_form (nesting_in c.args.around.now)) c.args.here.now
    c.from_residual-in_err-require.result c.in_err-require.field-0.0 c.from_residual-in_err-require.ensures.1
    (no c.in_default.ensures (made_stops (block_stops c.in_err-require.ensures)))

pub returns-in-Some : goal.returns-in-Some
returns-in-Some c =
    let source = c.args.self.now.source in
    let bytes = source.bytes.now in
    formed (forms.item_form (nesting_in c.args.around.now))
    (yes begun c.in-Some.ensures (λ k1. (made_of k1 c.in_ok-assoc.ensures (λ p. refl))))

pub returns-in_err-assoc : goal.returns-in_err-assoc
returns-in_err-assoc c =
    let source = c.args.self.now.source in
    let bytes = source.bytes.now in
    stops true source (item_in bytes) (forms.item_form (nesting_in c.args.around.now)) c.args.here.now
    c.from_residual.result c.in_err-assoc.field-0.0 c.from_residual.ensures.1
    (yes begun c.in-Some.ensures (λ k1. (made_stops (part_stops c.in_err-assoc.ensures))))

use Rattle.std.proofs.Common.{map, sym, ◌∙◌}
use Rattle.def_decl_reading.specs.Form.{reads, Until}
use Rattle.def_decl_reading.specs.MemberReading as forms
use Rattle.sl_tree.specs.DeclView.{item_in}
use Rattle.sl_cursor.specs.Nestings.{nesting_in}
use Rattle.def_tree.specs.Symbol.{is_sign}
use Rattle.sl_stmt.proofs.Settling.{settles_err}
use Rattle.sl_cursor.proofs.Listed.{fewer_left}
use Rattle.sl_decl.proofs.Looping.{until_none, until_more, until_last, until_stops, further_on}
use Rattle.sl_decl.proofs.Eating.{eats_item}
use Rattle.sl_decl.proofs.parser.Parser.items.Goals as goal

pub loop-items-init : goal.loop-items-init
loop-items-init c =
    let source = c.args.self.now.source in
    let view = item_in source.bytes.now in
    let part = forms.item_form (nesting_in c.args.inside.now) in
    until_none source view (is_sign "}") part c.args.here.now c.new-items.result c.new-items.ensures c.requires.at

pub loop-items-preserved : goal.loop-items-preserved
loop-items-preserved c =
    let source = c.args.self.now.source in
    let view = item_in source.bytes.now in
    let part = forms.item_form (nesting_in c.args.inside.now) in
    until_more source view (is_sign "}") part (eats_item (nesting_in c.args.inside.now)) c.args.here.now
    c.loop-items.items c.push.new.self c.loop-items.next
    c.in_ok-item.item c.in_ok-item.behind c.loop-items.invariant (sym c.stands.ensures
    ∙ c.if-stands.false) c.in_ok-item.ensures c.in_ok-push.ensures.ok

pub loop-items-smaller : goal.loop-items-smaller
loop-items-smaller c =
    let source = c.args.self.now.source in
    let view = item_in source.bytes.now in
    let part = forms.item_form (nesting_in c.args.inside.now) in
    fewer_left source c.loop-items.next.place c.in_ok-item.behind.place c.loop-items.invariant.stands.stands
    c.in_ok-item.ensures.behind.stands
    (further_on source view part (eats_item (nesting_in c.args.inside.now)) c.loop-items.next c.in_ok-item.item
    c.in_ok-item.behind c.loop-items.invariant.stands c.in_ok-item.ensures)

pub returns-then-stands : goal.returns-then-stands
returns-then-stands c =
    let source = c.args.self.now.source in
    let view = item_in source.bytes.now in
    let part = forms.item_form (nesting_in c.args.inside.now) in
    until_last source view (is_sign "}") part c.args.here.now c.loop-items.items c.loop-items.next c.loop-items.invariant
    (sym c.stands.ensures ∙ c.if-stands.true)

pub returns-in_err-item : goal.returns-in_err-item
returns-in_err-item c =
    let source = c.args.self.now.source in
    let view = item_in source.bytes.now in
    let part = forms.item_form (nesting_in c.args.inside.now) in
    let stop = c.in_err-item.field-0.0 in
    settles_err source (λ items. map view items) (reads (Until (is_sign "}")
    (forms.item_form (nesting_in c.args.inside.now)))) c.args.here.now c.from_residual.result stop
    c.from_residual.ensures.1
    (until_stops source view (is_sign "}") part (λ items. map view items) c.args.here.now c.loop-items.items
    c.loop-items.next stop c.loop-items.invariant (sym c.stands.ensures ∙ c.if-stands.false) c.in_err-item.ensures)

use Rattle.std.proofs.Common.{map, sym, ◌∙◌}
use Rattle.def_decl_reading.specs.Form.{reads, ends, Until}
use Rattle.def_decl_reading.specs.DeclReading as decls
use Rattle.sl_tree.specs.DeclView.{decl_in}
use Rattle.sl_cursor.specs.Nestings.{nesting_in}
use Rattle.sl_stmt.proofs.Settling.{settles_err}
use Rattle.sl_cursor.proofs.Listed.{fewer_left}
use Rattle.sl_decl.proofs.Looping.{until_none, until_more, until_last, until_stops, further_on}
use Rattle.sl_decl.proofs.Eating.{eats_decl}
use Rattle.sl_decl.proofs.parser.Parser.decls.Goals as goal

pub loop-decls-init : goal.loop-decls-init
loop-decls-init c =
    let source = c.args.self.now.source in
    let view = decl_in source.bytes.now in
    let part = decls.decl_form (nesting_in c.args.around.now) in
    until_none source view ends part c.args.here.now c.new-decls.result c.new-decls.ensures c.requires.at

pub loop-decls-preserved : goal.loop-decls-preserved
loop-decls-preserved c =
    let source = c.args.self.now.source in
    let view = decl_in source.bytes.now in
    let part = decls.decl_form (nesting_in c.args.around.now) in
    until_more source view ends part (eats_decl (nesting_in c.args.around.now)) c.args.here.now c.loop-decls.decls
    c.push.new.self c.loop-decls.next
    c.in_ok-decl.decl c.in_ok-decl.behind c.loop-decls.invariant
    (sym c.ends.ensures ∙ c.if-ends.false) c.in_ok-decl.ensures c.in_ok-push.ensures.ok

pub loop-decls-smaller : goal.loop-decls-smaller
loop-decls-smaller c =
    let source = c.args.self.now.source in
    let view = decl_in source.bytes.now in
    let part = decls.decl_form (nesting_in c.args.around.now) in
    fewer_left source c.loop-decls.next.place c.in_ok-decl.behind.place c.loop-decls.invariant.stands.stands
    c.in_ok-decl.ensures.behind.stands
    (further_on source view part (eats_decl (nesting_in c.args.around.now)) c.loop-decls.next c.in_ok-decl.decl
    c.in_ok-decl.behind c.loop-decls.invariant.stands c.in_ok-decl.ensures)

pub returns-then-ends : goal.returns-then-ends
returns-then-ends c =
    let source = c.args.self.now.source in
    let view = decl_in source.bytes.now in
    let part = decls.decl_form (nesting_in c.args.around.now) in
    until_last source view ends part c.args.here.now c.loop-decls.decls c.loop-decls.next c.loop-decls.invariant
    (sym c.ends.ensures ∙ c.if-ends.true)

pub returns-in_err-decl : goal.returns-in_err-decl
returns-in_err-decl c =
    let source = c.args.self.now.source in
    let view = decl_in source.bytes.now in
    let part = decls.decl_form (nesting_in c.args.around.now) in
    let stop = c.in_err-decl.field-0.0 in
    settles_err source (λ items. map view items) (reads (Until ends (decls.decl_form (nesting_in c.args.around.now))))
    c.args.here.now c.from_residual.result stop c.from_residual.ensures.1
    (until_stops source view ends part (λ items. map view items) c.args.here.now c.loop-decls.decls c.loop-decls.next stop
    c.loop-decls.invariant (sym c.ends.ensures ∙ c.if-ends.false) c.in_err-decl.ensures)

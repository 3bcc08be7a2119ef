use Rattle.std.proofs.Common.{map, arith}
use Rattle.def_tree.specs.Limits.{plain}
use Rattle.def_decl_reading.specs.Form.{ASign, reads, Many}
use Rattle.def_decl_reading.specs.MemberReading as forms
use Rattle.sl_tree.specs.DeclView.{where_in}
use Rattle.sl_cursor.specs.Nestings.{nesting_in}
use Rattle.sl_cursor.proofs.Following.{follows_err}
use Rattle.sl_cursor.proofs.Listed.{fewer_left}
use Rattle.sl_decl.proofs.Looping.{many_none, many_more, many_last, many_stops}
use Rattle.sl_decl.proofs.parser.Parser.conditions.Goals as goal

pub loop-word-init : goal.loop-word-init
loop-word-init c =
    let source = c.args.self.now.source in
    let view = where_in source.bytes.now in
    let part = forms.where_form (nesting_in c.args.around.now) in
    many_none source view (ASign "where") plain part c.args.here.now c.new-conditions.result c.new-conditions.ensures
    c.requires

pub loop-word-preserved : goal.loop-word-preserved
loop-word-preserved c =
    let source = c.args.self.now.source in
    let view = where_in source.bytes.now in
    let part = forms.where_form (nesting_in c.args.around.now) in
    many_more source view (ASign "where") plain part c.args.here.now c.loop-word.conditions c.push.new.self
    c.loop-word.next c.in-Some.word c.in-Some.behind
    c.in_ok-condition.condition c.in_ok-condition.after c.loop-word.invariant c.in-Some.ensures
    c.in_ok-condition.ensures c.in_ok-push.ensures.ok

pub loop-word-smaller : goal.loop-word-smaller
loop-word-smaller c =
    fewer_left c.args.self.now.source c.loop-word.next.place c.in_ok-condition.after.place
    c.loop-word.invariant.stands.stands c.in_ok-condition.ensures.behind.stands
    (omega (arith, c.in-Some.ensures.on, c.in_ok-condition.ensures.on))

pub returns-in_default : goal.returns-in_default
returns-in_default c =
    let source = c.args.self.now.source in
    let view = where_in source.bytes.now in
    let part = forms.where_form (nesting_in c.args.around.now) in
    many_last source view (ASign "where") plain part c.args.here.now c.loop-word.conditions c.loop-word.next
    c.loop-word.invariant c.in_default.ensures

pub returns-in_err-condition : goal.returns-in_err-condition
returns-in_err-condition c =
    let source = c.args.self.now.source in
    let view = where_in source.bytes.now in
    let part = forms.where_form (nesting_in c.args.around.now) in
    let stop = c.in_err-condition.field-0.0 in
    follows_err source (λ items. map view items) (reads (Many (ASign "where") plain part)) c.args.here.now
    c.from_residual.result stop c.from_residual.ensures.1
    (many_stops source view (ASign "where") plain part (λ items. map view items) c.args.here.now
    c.loop-word.conditions c.loop-word.next c.in-Some.word c.in-Some.behind stop c.loop-word.invariant
    c.in-Some.ensures c.in_err-condition.ensures)

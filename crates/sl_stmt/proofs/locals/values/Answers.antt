use Rattle.std.proofs.Common.{false, map, refl, arith}
use Rattle.def_tree.specs.ExprTree.{NoExprs, MoreExprs}
use Rattle.def_reading.specs.Try as lists
use Rattle.def_reading.specs.StmtReading.{values_in}
use Rattle.sl_tree.specs.View.{expr_in, exprs_of}
use Rattle.sl_cursor.specs.Nestings.{nesting_in}
use Rattle.sl_cursor.proofs.Following.{follows_err}
use Rattle.sl_cursor.proofs.Listed.{listed_none, listed_more, listed_last, listed_stops, fewer_left}
use Rattle.sl_stmt.proofs.locals.values.Goals as goal

pub loop-values-init : goal.loop-values-init
loop-values-init c =
    let part = lists.expr_in false (nesting_in c.args.around.now) in
    listed_none c.args.input.now (expr_in c.args.input.now.bytes.now) MoreExprs NoExprs part c.args.here.now c.new-values.result c.new-values.ensures c.requires

pub loop-values-preserved : goal.loop-values-preserved
loop-values-preserved c =
    let part = lists.expr_in false (nesting_in c.args.around.now) in
    listed_more c.args.input.now (expr_in c.args.input.now.bytes.now) MoreExprs NoExprs part c.args.here.now c.loop-values.values c.push.new.self c.loop-values.next
    c.in_ok-value.value c.in_ok-value.behind c.in-Some.field-0-0 c.in-Some.after c.loop-values.invariant c.in_ok-value.ensures c.in_ok-push.ensures.ok c.in-Some.ensures

pub loop-values-smaller : goal.loop-values-smaller
loop-values-smaller c =
    fewer_left c.args.input.now c.loop-values.next.place c.in-Some.after.place c.loop-values.invariant.stands.stands c.in-Some.ensures.behind.stands
    (omega (arith, c.in_ok-value.ensures.on, c.in-Some.ensures.on))

pub returns-in-None : goal.returns-in-None
returns-in-None c =
    let part = lists.expr_in false (nesting_in c.args.around.now) in
    listed_last c.args.input.now (expr_in c.args.input.now.bytes.now) MoreExprs NoExprs part exprs_of refl (λ first others. refl) c.args.here.now c.loop-values.values c.push.new.self c.loop-values.next
    c.in_ok-value.value c.in_ok-value.behind c.loop-values.invariant c.in_ok-value.ensures c.in_ok-push.ensures.ok c.in-None.ensures

pub returns-in_err-value : goal.returns-in_err-value
returns-in_err-value c =
    let part = lists.expr_in false (nesting_in c.args.around.now) in
    let source = c.args.input.now in
    let stop = c.in_err-value.field-0.0 in
    follows_err source (λ values. exprs_of (map (expr_in source.bytes.now) values)) (values_in (nesting_in c.args.around.now)) c.args.here.now c.from_residual.result stop c.from_residual.ensures.1
    (listed_stops source (expr_in source.bytes.now) MoreExprs NoExprs part (λ values. exprs_of (map (expr_in source.bytes.now) values)) c.args.here.now c.loop-values.values c.loop-values.next stop
    c.loop-values.invariant c.in_err-value.ensures)

use Rattle.std.proofs.Common.{[], map, refl, arith}
use Rattle.def_reading.specs.StmtReading as lists
use Rattle.def_reading.specs.StmtReading.{with_more, declarators_in}
use Rattle.sl_tree.specs.View.{declarator_in}
use Rattle.sl_cursor.specs.Nestings.{nesting_in}
use Rattle.sl_cursor.proofs.Following.{follows_err}
use Rattle.sl_cursor.proofs.Listed.{listed_none, listed_more, listed_last, listed_stops, fewer_left}
use Rattle.sl_stmt.proofs.locals.declarators.Goals as goal

pub loop-declarators-init : goal.loop-declarators-init
loop-declarators-init c =
    let part = lists.declarator_in (nesting_in c.args.around.now) in
    listed_none c.args.input.now (declarator_in c.args.input.now.bytes.now) with_more [] part c.args.here.now c.new-declarators.result c.new-declarators.ensures c.requires

pub loop-declarators-preserved : goal.loop-declarators-preserved
loop-declarators-preserved c =
    let part = lists.declarator_in (nesting_in c.args.around.now) in
    listed_more c.args.input.now (declarator_in c.args.input.now.bytes.now) with_more [] part c.args.here.now c.loop-declarators.declarators c.push.new.self c.loop-declarators.next
    c.in_ok-declarator.declarator c.in_ok-declarator.behind c.in-Some.field-0-0 c.in-Some.after c.loop-declarators.invariant c.in_ok-declarator.ensures c.in_ok-push.ensures.ok c.in-Some.ensures

pub loop-declarators-smaller : goal.loop-declarators-smaller
loop-declarators-smaller c =
    fewer_left c.args.input.now c.loop-declarators.next.place c.in-Some.after.place c.loop-declarators.invariant.stands.stands c.in-Some.ensures.behind.stands
    (omega (arith, c.in_ok-declarator.ensures.on, c.in-Some.ensures.on))

pub returns-in-None : goal.returns-in-None
returns-in-None c =
    let part = lists.declarator_in (nesting_in c.args.around.now) in
    listed_last c.args.input.now (declarator_in c.args.input.now.bytes.now) with_more [] part (λ all. all) refl (λ first others. refl) c.args.here.now c.loop-declarators.declarators c.push.new.self c.loop-declarators.next
    c.in_ok-declarator.declarator c.in_ok-declarator.behind c.loop-declarators.invariant c.in_ok-declarator.ensures c.in_ok-push.ensures.ok c.in-None.ensures

pub returns-in_err-declarator : goal.returns-in_err-declarator
returns-in_err-declarator c =
    let part = lists.declarator_in (nesting_in c.args.around.now) in
    let source = c.args.input.now in
    let stop = c.in_err-declarator.field-0.0 in
    follows_err source (λ declarators. map (declarator_in source.bytes.now) declarators) (declarators_in (nesting_in c.args.around.now)) c.args.here.now c.from_residual.result stop c.from_residual.ensures.1
    (listed_stops source (declarator_in source.bytes.now) with_more [] part (λ declarators. map (declarator_in source.bytes.now) declarators) c.args.here.now c.loop-declarators.declarators c.loop-declarators.next stop
    c.loop-declarators.invariant c.in_err-declarator.ensures)

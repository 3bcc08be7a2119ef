use Rattle.std.proofs.lemmas.Result.{err_from_is_err_and}
use Rattle.sl_scopes.proofs.Clashing.{seen_all, seen_early, seen_more, seen_none}
use Rattle.sl_scopes.proofs.scope.search_scope.Goals as goal

pub loop-name-init : goal.loop-name-init
loop-name-init c = seen_none c.args.source.now c.args.names.now c.new-seen.result c.new-seen.ensures.empty

pub loop-name-preserved : goal.loop-name-preserved
loop-name-preserved c =
    seen_more c.args.source.now c.args.names.now c.loop-name.name-index _ c.loop-name.seen c.enter.new.seen
    c.loop-name-test.true c.loop-name.invariant c.in_ok-enter.ensures.ok

pub returns-in_err-enter : goal.returns-in_err-enter
returns-in_err-enter c =
    let p = err_from_is_err_and c.from_residual.result c.from_residual.ensures.1 in
    rw (p.1, p.2) (seen_early c.args.source.now c.args.names.now c.loop-name.name-index _ c.loop-name.seen c.in_err-enter.field-0.0
    c.loop-name-test.true c.loop-name.invariant c.in_err-enter.ensures.err)

pub returns : goal.returns
returns c = seen_all c.args.source.now c.args.names.now c.loop-name.name-index c.loop-name.seen c.loop-name-test.false c.loop-name.invariant

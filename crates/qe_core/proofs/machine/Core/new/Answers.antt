use Rattle.qe_core.proofs.Keeping.{kept_new}
use Rattle.qe_core.proofs.machine.Core.new.Goals as goal

pub invariant_of-result : goal.invariant_of-result
invariant_of-result g c =
    kept_new g.R.Key.Ord.cmp g.met.R.Key.Ord.total c.requires c.args.callers c.new-published.result.spare
    c.new-published.result.pairs c.in_ok-waits.waits c.new-published.ensures c.in_ok-waits.ensures

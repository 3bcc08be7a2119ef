use Rattle.def_core.proofs.Closing.{last_claimed}
use Rattle.def_core.proofs.Paths.{path_distinct}
use Rattle.qe_chain.proofs.closing.cycle.Goals as goal

pub path_to-requires-clause-claimed : goal.path_to-requires-clause-claimed
path_to-requires-clause-claimed g c = last_claimed c.args.waits.now c.args.caller c.in-Some.last.now c.in-Some.ensures

pub rotate-requires-clause-one_key : goal.rotate-requires-clause-one_key
rotate-requires-clause-one_key g c = (g.met.R.Rules.lawful c.args.rules.now).one_key

pub rotate-requires-clause-distinct : goal.rotate-requires-clause-distinct
rotate-requires-clause-distinct g c =
    path_distinct g.R.Key.Ord.cmp g.met.R.Key.Ord.total (g.met.R.Rules.lawful c.args.rules.now).one_key c.args.waits.now _ c.args.key.now c.in-Some.last.now
    c.in_ok-cycle-in-Some.cycle c.in_ok-cycle-in-Some.ensures

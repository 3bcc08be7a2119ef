use Rattle.def_core.proofs.AskedUnder.{asked_lie_under}
use Rattle.qe_core.proofs.laws.asked_under.Goals as goal

pub returns : goal.returns
returns g c = λ rules. asked_lie_under g.R.Key.Ord.cmp g.met.R.Key.Ord.total (g.R.Rules.meaning rules) (g.met.R.Rules.lawful rules)

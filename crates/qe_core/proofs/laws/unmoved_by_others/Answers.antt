use Rattle.def_core.proofs.Unmoved.{unmoved_by_others}
use Rattle.qe_core.proofs.laws.unmoved_by_others.Goals as goal

pub returns : goal.returns
returns g c = λ rules. unmoved_by_others g.R.Key.Ord.cmp g.met.R.Key.Ord.total (g.R.Rules.meaning rules) (g.met.R.Rules.lawful rules)

use Rattle.def_query.proofs.Laws.{telling_cycles}
use Rattle.qe_rules.proofs.laws.telling_cycles.Goals as goal

pub returns : goal.returns
returns g c = λ rules. telling_cycles g.R.Key.Ord.cmp g.met.R.Key.Ord.total (g.R.Rules.meaning rules) (g.met.R.Rules.lawful rules)

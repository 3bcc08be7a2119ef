use Rattle.def_query.proofs.Laws.{answering}
use Rattle.qe_rules.proofs.laws.answering.Goals as goal

pub returns : goal.returns
returns g c = λ rules. answering g.R.Key.Ord.cmp g.met.R.Key.Ord.total (g.R.Rules.meaning rules) (g.met.R.Rules.lawful rules)

use Rattle.def_core.proofs.PublishedRight.{published_right}
use Rattle.qe_core.proofs.laws.published_right.Goals as goal

pub returns : goal.returns
returns g c = λ rules. published_right g.R.Key.Ord.cmp g.met.R.Key.Ord.total (g.R.Rules.meaning rules) (g.met.R.Rules.lawful rules)

use Rattle.def_core.proofs.WorkedOnce.{worked_once}
use Rattle.qe_core.proofs.laws.worked_once.Goals as goal

pub returns : goal.returns
returns g c = λ rules. worked_once g.R.Key.Ord.cmp g.met.R.Key.Ord.total (g.R.Rules.meaning rules) (g.met.R.Rules.lawful rules)

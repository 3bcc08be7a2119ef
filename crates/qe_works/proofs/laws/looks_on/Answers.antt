use Rattle.def_core.proofs.Unmoved.{unmoved_by_others}
use Rattle.qe_works.proofs.Turns.{looks_on}
use Rattle.qe_works.proofs.laws.looks_on.Goals as goal

pub returns : goal.returns
returns g c = λ rules. looks_on g.R.Key.Ord.cmp (g.R.Rules.meaning rules)
    (unmoved_by_others g.R.Key.Ord.cmp g.met.R.Key.Ord.total (g.R.Rules.meaning rules) (g.met.R.Rules.lawful rules))

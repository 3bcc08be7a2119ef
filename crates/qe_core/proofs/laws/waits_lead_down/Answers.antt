use Rattle.def_core.proofs.LeadsDown.{waits_lead_down}
use Rattle.qe_core.proofs.laws.waits_lead_down.Goals as goal

pub returns : goal.returns
returns g c = λ rules. waits_lead_down g.R.Key.Ord.cmp g.met.R.Key.Ord.total (g.R.Rules.meaning rules) (g.met.R.Rules.lawful rules)

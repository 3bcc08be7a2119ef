use Rattle.std.proofs.Common.{sym, subst}
use Rattle.def_core.specs.State.{State}
use Rattle.def_core.specs.declared.event.Event.TheVariants.{Abandon}
use Rattle.def_core.specs.Replay.{Fits}
use Rattle.qe_core.proofs.Keeping.{abandons}
use Rattle.qe_core.proofs.machine.Core.abandon.Goals as goal

pub invariant_of-self : goal.invariant_of-self
invariant_of-self g c =
    abandons g.R.Key.Ord.cmp g.met.R.Key.Ord.total record { published = c.self.inside.published.pairs; callers = c.self.inside.waits } c.self.inside.published.spare c.self.invariant c.args.caller c.clear.new.self
    (subst (λ (s : State g.row.R-Key.Denot g.row.R-Answer.Denot). Fits g.R.Key.Ord.cmp s (Abandon c.args.caller)) (sym c.self.view_is) c.requires) c.clear.ensures

use Rattle.std.proofs.Common.{◌≡◌, sym, subst}
use Rattle.def_core.specs.State.{State}
use Rattle.def_core.specs.declared.event.Event.TheVariants.{Look}
use Rattle.def_core.specs.Replay.{Fits, outcome}
use Rattle.def_core.specs.declared.outcome.Outcome.TheVariants.{Yours}
use Rattle.qe_core.proofs.Keeping.{looks_known, looks_free}
use Rattle.qe_core.proofs.machine.Core.look.Goals as goal

pub invariant_of-self : goal.invariant_of-self
invariant_of-self g c =
    looks_known g.R.Key.Ord.cmp g.met.R.Key.Ord.total record { published = c.self.inside.published.pairs; callers = c.self.inside.waits } c.self.inside.published.spare c.self.invariant c.args.caller c.stop.new.self
    (subst (λ (s : State g.row.R-Key.Denot g.row.R-Answer.Denot). Fits g.R.Key.Ord.cmp s (Look c.args.caller)) (sym c.self.view_is) c.requires) c.stop.ensures

pub invariant_of-self-in-Yours : goal.invariant_of-self-in-Yours
invariant_of-self-in-Yours g c =
    looks_free g.R.Key.Ord.cmp g.met.R.Key.Ord.total record { published = c.self.inside.published.pairs; callers = c.self.inside.waits } c.self.inside.published.spare c.self.invariant c.args.caller c.take_up.new.self
    (subst (λ (s : State g.row.R-Key.Denot g.row.R-Answer.Denot). Fits g.R.Key.Ord.cmp s (Look c.args.caller)) (sym c.self.view_is) c.requires)
    (subst (λ (s : State g.row.R-Key.Denot g.row.R-Answer.Denot). outcome g.R.Key.Ord.cmp s (Look c.args.caller) ≡ Yours) (sym c.self.view_is) (sym c.in-Yours.ensures))
    c.take_up.ensures

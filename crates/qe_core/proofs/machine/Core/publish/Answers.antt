use Rattle.std.proofs.Common.{sym, subst}
use Rattle.def_core.specs.State.{State}
use Rattle.def_core.specs.declared.event.Event.TheVariants.{Publish}
use Rattle.def_core.specs.Replay.{Fits}
use Rattle.qe_core.proofs.Keeping.{on_ok, takes_unpublished, some_room, publishes}
use Rattle.qe_core.proofs.machine.Core.publish.Goals as goal

pub put-put-requires : goal.put-put-requires
put-put-requires g c =
    takes_unpublished g.R.Key.Ord.cmp g.met.R.Key.Ord.total record { published = c.self.inside.published.pairs; callers = c.self.inside.waits } c.self.inside.published.spare c.self.invariant c.args.caller c.take-key.result c.take-key.ensures.last

pub invariant_of-self : goal.invariant_of-self
invariant_of-self g c =
    let fits = (subst (λ (s : State g.row.R-Key.Denot g.row.R-Answer.Denot). Fits g.R.Key.Ord.cmp s (Publish c.args.caller c.args.answer)) (sym c.self.view_is) c.requires) in
    let ok =
    c.put-put.ensures.succeeds
    (some_room g.R.Key.Ord.cmp g.met.R.Key.Ord.total record { published = c.self.inside.published.pairs; callers = c.self.inside.waits } c.self.inside.published.spare c.self.invariant c.args.caller c.args.answer c.take-key.result fits c.take-key.ensures.last) in
    publishes g.R.Key.Ord.cmp g.met.R.Key.Ord.total record { published = c.self.inside.published.pairs; callers = c.self.inside.waits } c.self.inside.published.spare c.self.invariant c.args.caller c.args.answer c.take-key.result
    c.put-put.new.self.pairs c.take-key.new.self c.put-put.new.self.spare fits c.take-key.ensures.last
    (on_ok c.put-put.result _ ok c.put-put.ensures.gains) c.take-key.ensures.rest (on_ok c.put-put.result _ ok c.put-put.ensures.room)

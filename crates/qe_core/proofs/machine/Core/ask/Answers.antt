use Rattle.std.proofs.Common.{sym, subst}
use Rattle.def_core.specs.State.{State}
use Rattle.def_core.specs.declared.event.Event.TheVariants.{Ask}
use Rattle.def_core.specs.Replay.{Fits}
use Rattle.qe_core.proofs.Keeping.{unseen, asks_free, asks_claimed}
use Rattle.qe_core.proofs.machine.Core.ask.Goals as goal

pub invariant_of-self-in-None : goal.invariant_of-self-in-None
invariant_of-self-in-None g c =
    asks_free g.R.Key.Ord.cmp g.met.R.Key.Ord.total record { published = c.self.inside.published.pairs; callers = c.self.inside.waits } c.self.inside.published.spare c.self.invariant c.args.caller c.args.key
    c.make_room.new.published.pairs c.claim.new.self c.make_room.new.published.spare
    (subst (λ (s : State g.row.R-Key.Denot g.row.R-Answer.Denot). Fits g.R.Key.Ord.cmp s (Ask c.args.caller c.args.key)) (sym c.self.view_is) c.requires)
    (unseen c.get.result _ _ (sym c.if-is_some.ensures) c.get.ensures.answer) (sym c.in-None.ensures)
    c.in_ok-make_room-in-None.ensures.pairs c.in_ok-claim-in-None.ensures.ok c.in_ok-make_room-in-None.ensures.room

pub invariant_of-self-in-Some : goal.invariant_of-self-in-Some
invariant_of-self-in-Some g c =
    asks_claimed g.R.Key.Ord.cmp g.met.R.Key.Ord.total record { published = c.self.inside.published.pairs; callers = c.self.inside.waits } c.self.inside.published.spare c.self.invariant c.args.caller c.args.key
    c.make_room-in-Some.new.published.pairs c.wait.new.self c.make_room-in-Some.new.published.spare
    (subst (λ (s : State g.row.R-Key.Denot g.row.R-Answer.Denot). Fits g.R.Key.Ord.cmp s (Ask c.args.caller c.args.key)) (sym c.self.view_is) c.requires)
    c.in_ok-make_room-in-Some.ensures.pairs c.in_ok-wait-in-Some.ensures.ok c.in_ok-make_room-in-Some.ensures.room

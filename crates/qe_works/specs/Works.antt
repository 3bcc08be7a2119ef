-- What one turn of a session tells.
use Rattle.std.specs.Prelude.{◌≡◌, ℕ, List, Option, Some, None}
use Rattle.std.specs.declared.cmp.Ordering.{Ordering}
use Rattle.def_query.specs.Map.{get}
use Rattle.def_core.specs.declared.event.Event.{Event}
use Rattle.def_core.specs.declared.event.Event.TheVariants.{Publish, Abandon}
use Rattle.def_core.specs.declared.outcome.Outcome.{Outcome}
use Rattle.def_core.specs.State.{State}
use Rattle.def_core.specs.Replay.{outcome}

-- what the event comes to in the state, and the key's answer in it
pub record IsReply {K A : Type 0} (cmp : K → K → Ordering) (s : State K A) (e : Event K A) (k : K)
    (o : Outcome (List K)) (a : Option A) : Type 0 where
  pub outcome_is : o ≡ outcome cmp s e
  pub answer_is : a ≡ get cmp s.published k

-- the Publish of this answer; without one no work is done
abbrev pub publishing : {K A : Type 0} → ℕ → Option A → Event K A
publishing c None = Abandon c
publishing c (Some a) = Publish c a

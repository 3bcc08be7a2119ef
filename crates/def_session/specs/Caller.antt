-- What a caller of a session knows of itself.
use Rattle.std.specs.Prelude.{ℕ, ◌≤◌}
use Rattle.std.specs.declared.cmp.Ordering.{Ordering}
use Rattle.def_core.specs.declared.event.Event.{Event}
use Rattle.def_core.specs.State.{Caller, State, caller_at}
use Rattle.def_core.specs.Replay.{replay}
use Rattle.def_turn.specs.Pass.{PassState}
use Rattle.def_session.specs.declared.subject.Subject.{Subject}

-- the pass of a caller of a session of such rules
abbrev pub SessionPass : Type 0 → Type 0 → Type 0 → Type 0
SessionPass R K A = PassState (Subject R) (Event K A)

module _ {R K A : Type 0} (cmp : K → K → Ordering) where
  -- what is published, claimed and awaited after the events that the caller has seen
  abbrev pub seen_state : SessionPass R K A → State K A
  seen_state p = replay cmp p.lock.subject.callers p.seen

  -- what the caller itself has claimed and waits for
  abbrev pub own : SessionPass R K A → Caller K
  own p = caller_at (seen_state p).callers p.number

  -- it is one of the session's callers
  pub record IsOfSession (p : SessionPass R K A) : Type 0 where
    pub least : 1 ≤ p.number
    pub greatest : p.number ≤ p.lock.subject.callers

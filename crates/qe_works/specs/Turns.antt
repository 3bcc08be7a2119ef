-- What a caller may do in its next turn, as far as it can know before it.
use Rattle.std.specs.Prelude.{◌≡◌, ◌≢◌, ℕ, ◌≤◌, List, [], ◌∷◌, ◌++◌, Some}
use Rattle.std.specs.declared.cmp.Ordering.{Ordering}
use Rattle.def_query.specs.Meaning.{Meaning}
use Rattle.def_core.specs.declared.event.Event.{Event}
use Rattle.def_core.specs.declared.event.Event.TheVariants.{Look}
use Rattle.def_core.specs.declared.outcome.Outcome.TheVariants.{Wait}
use Rattle.def_core.specs.State.{caller_at}
use Rattle.def_core.specs.Replay.{caller_of, outcome, replay, Fits}
use Rattle.def_core.specs.Legal.{Legal}
use Rattle.def_core.specs.Laws.{IsNoLook}
use Rattle.def_turn.specs.Pass.{IsCurrent}
use Rattle.def_session.specs.Caller.{SessionPass, own, IsOfSession}

module _ {K A : Type 0} (cmp : K → K → Ordering) (r : Meaning K A) where
  -- a Look of its caller fits the history, in which the caller waits for the key; and it is legal
  -- after it where it comes to no wait
  pub record MayLook (n c : ℕ) (k : K) (h : List (Event K A)) : Type 0 where
    pub fits : Fits cmp (replay cmp n h) (Look c)
    pub awaits : (caller_at (replay cmp n h).callers c).awaits ≡ Some k
    pub legal :
        ((w : ℕ) → outcome cmp (replay cmp n h) (Look c) ≢ Wait w)
        → Legal cmp r n (h ++ Look c ∷ [])

  -- an event that is no Look, and is legal after what its caller has seen, is legal after each
  -- history that its turn may find
  abbrev pub StaysLegal : Type 0 → Type 0
  StaysLegal R =
      (p : SessionPass R K A) (e : Event K A) (h : List (Event K A))
      → 1 ≤ p.number → caller_of e ≡ p.number → IsNoLook cmp r e
      → Legal cmp r p.lock.subject.callers p.seen
      → Legal cmp r p.lock.subject.callers (p.seen ++ e ∷ [])
      → Legal cmp r p.lock.subject.callers h → IsCurrent caller_of p h
      → Legal cmp r p.lock.subject.callers (h ++ e ∷ [])

  -- a caller that waits for a key may look for it, whatever history its turn finds
  abbrev pub LooksOn : Type 0 → Type 0
  LooksOn R =
      (p : SessionPass R K A) (k : K) (h : List (Event K A))
      → IsOfSession cmp p → (own cmp p).awaits ≡ Some k
      → Legal cmp r p.lock.subject.callers p.seen
      → Legal cmp r p.lock.subject.callers h → IsCurrent caller_of p h
      → MayLook p.lock.subject.callers p.number k h

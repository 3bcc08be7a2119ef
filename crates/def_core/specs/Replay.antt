-- What each event comes to, and the state after it.
use Rattle.std.specs.Prelude.{◌≡◌, ◌≢◌, ℕ, ◌≤◌, ◌⊎◌, List, [], ◌∷◌, ◌++◌, length, Option, Some, None, IsSome}
use Rattle.std.specs.declared.cmp.Ordering.{Ordering}
use Rattle.def_query.specs.Map.{get}
use Rattle.def_core.specs.declared.event.Event.{Event}
use Rattle.def_core.specs.declared.event.Event.TheVariants.{Ask, Publish, Look, Abandon}
use Rattle.def_core.specs.declared.outcome.Outcome.{Outcome}
use Rattle.def_core.specs.declared.outcome.Outcome.TheVariants.{Known, Yours, Circle, Wait, Published, Abandoned}
use Rattle.def_core.specs.State.{Caller, State, opening, caller_at, with_caller, idle, last, without_last}
use Rattle.def_core.specs.Needs.{owner, closing}

-- the number of the caller that does it
abbrev pub caller_of : {K A : Type 0} → Event K A → ℕ
caller_of (Ask c k) = c
caller_of (Publish c a) = c
caller_of (Look c) = c
caller_of (Abandon c) = c

-- what an Ask comes to, by the answer of its key, the key's owner, and the cycle that waiting would
-- close
abbrev pub asked : {A C : Type 0} → Option A → Option ℕ → Option C → Outcome C
asked (Some a) owner cycle = Known
asked None None cycle = Yours
asked None (Some w) (Some y) = Circle y
asked None (Some w) None = Wait w

-- what a Look comes to, by the answer of the awaited key and the key's owner
abbrev pub looked : {A C : Type 0} → Option A → Option ℕ → Outcome C
looked (Some a) owner = Known
looked None None = Yours
looked None (Some w) = Wait w

-- a caller after an Ask that came to this
abbrev pub has_asked : {K C : Type 0} → Caller K → K → Outcome C → Caller K
has_asked was k Yours = record { chain = was.chain ++ k ∷ []; awaits = None }
has_asked was k (Wait w) = record { chain = was.chain; awaits = Some k }
has_asked was k _ = was

-- a caller after a Look for this key that came to this
abbrev pub has_looked : {K C : Type 0} → Caller K → K → Outcome C → Caller K
has_looked was k Known = record { chain = was.chain; awaits = None }
has_looked was k Yours = record { chain = was.chain ++ k ∷ []; awaits = None }
has_looked was k _ = was

module _ {K A : Type 0} (cmp : K → K → Ordering) where
  -- what a Look comes to; one for nothing is no event
  abbrev pub look : State K A → Option K → Outcome (List K)
  look s None = Known
  look s (Some k) = looked (get cmp s.published k) (owner cmp s.callers k)

  -- what the event comes to
  abbrev pub outcome : State K A → Event K A → Outcome (List K)
  outcome s (Ask c k) =
      asked (get cmp s.published k) (owner cmp s.callers k) (closing cmp s.callers c k)
  outcome s (Publish c a) = Published
  outcome s (Look c) = look s (caller_at s.callers c).awaits
  outcome s (Abandon c) = Abandoned

  -- the caller after its Look
  abbrev pub after_look : State K A → Caller K → Option K → Caller K
  after_look s was None = was
  after_look s was (Some k) = has_looked was k (look s (Some k))

  -- the published pairs with the answer of this key, if there is one
  abbrev pub with_answer : Option K → A → List (K × A) → List (K × A)
  with_answer None a pairs = pairs
  with_answer (Some t) a pairs = (t, a) ∷ pairs

  -- the state after the event
  abbrev pub after : State K A → Event K A → State K A
  after s (Ask c k) = record {
    published = s.published;
    callers = with_caller s.callers c (has_asked (caller_at s.callers c) k (outcome s (Ask c k)));
  }
  after s (Publish c a) = record {
    published = with_answer (last (caller_at s.callers c).chain) a s.published;
    callers = with_caller s.callers c record {
      chain = without_last (caller_at s.callers c).chain;
      awaits = (caller_at s.callers c).awaits;
    };
  }
  after s (Look c) = record {
    published = s.published;
    callers = with_caller s.callers c
        (after_look s (caller_at s.callers c) (caller_at s.callers c).awaits);
  }
  after s (Abandon c) = record { published = s.published; callers = with_caller s.callers c idle }

  -- the state after these events
  abbrev pub replay_from : State K A → List (Event K A) → State K A
  replay_from s [] = s
  replay_from s (e ∷ h) = replay_from (after s e) h

  -- the state after a history of n callers
  abbrev pub replay : ℕ → List (Event K A) → State K A
  replay n h = replay_from (opening n) h

  -- these events, each with what it comes to
  abbrev pub steps_from : State K A → List (Event K A) → List (Event K A × Outcome (List K))
  steps_from s [] = []
  steps_from s (e ∷ h) = (e, outcome s e) ∷ steps_from (after s e) h

  -- the events of a history of n callers, each with what it comes to
  abbrev pub steps : ℕ → List (Event K A) → List (Event K A × Outcome (List K))
  steps n h = steps_from (opening n) h

  -- the event is allowed where its caller is this
  abbrev pub FitsCaller : Caller K → Event K A → Type 0
  FitsCaller was (Ask c k) = was.awaits ≡ None
  FitsCaller was (Publish c a) = (was.awaits ≡ None) × (was.chain ≢ [])
  FitsCaller was (Look c) = IsSome was.awaits
  FitsCaller was (Abandon c) = (was.chain ≢ []) ⊎ IsSome was.awaits

  -- the event is allowed in the state
  pub record Fits (s : State K A) (e : Event K A) : Type 0 where
    pub least : 1 ≤ caller_of e
    pub greatest : caller_of e ≤ length s.callers
    pub allowed : FitsCaller (caller_at s.callers (caller_of e)) e

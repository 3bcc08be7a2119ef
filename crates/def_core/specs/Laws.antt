-- What holds of every legal history.
use Rattle.std.specs.Prelude.{◌≡◌, ◌≢◌, ◌↔◌, ℕ, ◌==◌, ◌+◌, ◌*◌, ◌≤◌, Bool, true, false, List, [], ◌∷◌, ◌++◌, length, filter, map, None, IsSome}
use Rattle.std.specs.List.{flat_map}
use Rattle.std.specs.declared.cmp.Ordering.{Ordering}
use Rattle.def_query.specs.Answer.{IsCorrect}
use Rattle.def_query.specs.Cycle.{IsCycleOf}
use Rattle.def_query.specs.Keys.{IsIn, AreDistinct, Leads, Reaches}
use Rattle.def_query.specs.Map.{get}
use Rattle.def_query.specs.Meaning.{Meaning}
use Rattle.def_query.specs.Settles.{Depends}
use Rattle.def_core.specs.declared.event.Event.{Event}
use Rattle.def_core.specs.declared.event.Event.TheVariants.{Ask, Publish, Look, Abandon}
use Rattle.def_core.specs.declared.outcome.Outcome.TheVariants.{Circle}
use Rattle.def_core.specs.State.{State, opening, caller_at, claimed, idle, AreIdle}
use Rattle.def_core.specs.Needs.{Needs}
use Rattle.def_core.specs.Replay.{caller_of, outcome, after, replay}
use Rattle.def_core.specs.Legal.{Legal}

module _ {K A : Type 0} (cmp : K → K → Ordering) (r : Meaning K A) where
  -- each published pair is of a key and its answer, and each cycle that an Ask came to is that of
  -- its key
  pub record IsPublishedRight (n : ℕ) (h : List (Event K A)) : Type 0 where
    pub answers : IsCorrect cmp r (replay cmp n h).published
    pub cycles :
        (before behind : List (Event K A)) (c : ℕ) (k : K) (y : List K)
        → h ≡ before ++ Ask c k ∷ behind → outcome cmp (replay cmp n before) (Ask c k) ≡ Circle y
        → IsCycleOf cmp r k y

  abbrev pub PublishedRight : Type 0
  PublishedRight = (n : ℕ) (h : List (Event K A)) → Legal cmp r n h → IsPublishedRight n h

  -- the event asks, publishes or looks
  abbrev pub IsForward : Event K A → Type 0
  IsForward (Abandon c) = ⊥
  IsForward _ = Unit {0}

  -- some caller that has a chain or waits may ask, publish or look, and the history stays legal
  pub record HasWayOn (n : ℕ) (h : List (Event K A)) : Type 0 where
    pub event : Event K A
    pub busy : caller_at (replay cmp n h).callers (caller_of event) ≢ idle
    pub forward : IsForward event
    pub legal : Legal cmp r n (h ++ event ∷ [])

  -- current needs are what keys depend on, claims are apart from each other and from what is
  -- published, following current needs never comes back to a key, and where something is claimed or
  -- awaited there is a way on
  pub record LeadsDown (n : ℕ) (h : List (Event K A)) : Type 0 where
    pub depends : (x y : K) → Needs cmp (replay cmp n h).callers x y → Depends cmp r x y
    pub distinct : AreDistinct (claimed (replay cmp n h).callers)
    pub unpublished : (k : K) → IsIn k (claimed (replay cmp n h).callers)
        → get cmp (replay cmp n h).published k ≡ None
    pub no_way_back : (k : K) → ¬ Leads (Needs cmp (replay cmp n h).callers) k k
    pub way_on : ¬ AreIdle (replay cmp n h).callers → HasWayOn n h

  abbrev pub WaitsLeadDown : Type 0
  WaitsLeadDown = (n : ℕ) (h : List (Event K A)) → Legal cmp r n h → LeadsDown n h

  -- who asks for which key
  abbrev pub asked_by : Event K A → List (ℕ × K)
  asked_by (Ask c k) = (c, k) ∷ []
  asked_by _ = []

  -- the callers and keys of all Asks, in order
  abbrev pub asks : List (Event K A) → List (ℕ × K)
  asks h = flat_map asked_by h

  -- who asks for which key on an empty chain
  abbrev pub asked_on : List K → ℕ → K → List (ℕ × K)
  asked_on [] c k = (c, k) ∷ []
  asked_on (x ∷ xs) c k = []

  abbrev pub root_of : State K A → Event K A → List (ℕ × K)
  root_of s (Ask c k) = asked_on (caller_at s.callers c).chain c k
  root_of s _ = []

  abbrev pub roots_from : State K A → List (Event K A) → List (ℕ × K)
  roots_from s [] = []
  roots_from s (e ∷ h) = root_of s e ++ roots_from (after cmp s e) h

  -- the callers and keys of the Asks on an empty chain, in order
  abbrev pub roots : ℕ → List (Event K A) → List (ℕ × K)
  roots n h = roots_from (opening n) h

  -- the keys of such pairs
  abbrev pub keys_of : List (ℕ × K) → List K
  keys_of asked = map (λ (p : ℕ × K). p.1) asked

  -- the key lies in the closure of these keys under Depends
  abbrev pub IsUnder : List K → K → Type 0
  IsUnder keys k = (x : K) × IsIn x keys × Reaches (Depends cmp r) x k

  -- the closure of the keys as a list, and all pairs of a key of it and one that this key depends
  -- on
  pub record IsClosure (from : List K) (keys : List K) (edges : List (K × K)) : Type 0 where
    pub distinct : AreDistinct keys
    pub lies : (k : K) → IsIn k keys ↔ IsUnder from k
    pub distinct_edges : AreDistinct edges
    pub pairs : (x y : K) → IsIn (x, y) edges ↔ (IsIn x keys × Depends cmp r x y)

  -- the history has no Abandon
  abbrev pub HasNoAbandon : List (Event K A) → Type 0
  HasNoAbandon h = (c : ℕ) → ¬ IsIn (Abandon c) h

  -- the keys are published
  abbrev pub ArePublished : State K A → List K → Type 0
  ArePublished s keys = (k : K) → IsIn k keys → IsSome (get cmp s.published k)

  -- the event publishes an answer
  abbrev pub publishes : Event K A → Bool
  publishes (Publish c a) = true
  publishes _ = false

  -- no key is published twice, and none that lies outside the closure of the keys asked on an empty
  -- chain; where no work is left and these are published, the whole closure is; without Abandons
  -- the history is bounded by the closure, and where no work is left each key asked on an empty
  -- chain is published
  pub record IsWorkedOnce (n : ℕ) (h : List (Event K A)) : Type 0 where
    pub once : AreDistinct (map (λ (p : K × A). p.0) (replay cmp n h).published)
    pub counted : length (filter publishes h) ≡ length (replay cmp n h).published
    pub within : (k : K) → IsSome (get cmp (replay cmp n h).published k)
        → IsUnder (keys_of (roots n h)) k
    pub whole :
        AreIdle (replay cmp n h).callers → ArePublished (replay cmp n h) (keys_of (roots n h))
        → (k : K) → IsUnder (keys_of (roots n h)) k → IsSome (get cmp (replay cmp n h).published k)
    pub finite : (keys : List K) × (edges : List (K × K))
        × IsClosure (keys_of (roots n h)) keys edges
    pub bounded :
        HasNoAbandon h → (keys : List K) (edges : List (K × K))
        → IsClosure (keys_of (roots n h)) keys edges
        → length h ≤ length keys + 2 * (length edges + length (roots n h))
    pub ended :
        HasNoAbandon h → AreIdle (replay cmp n h).callers
        → ArePublished (replay cmp n h) (keys_of (roots n h))

  abbrev pub WorkedOnce : Type 0
  WorkedOnce = (n : ℕ) (h : List (Event K A)) → Legal cmp r n h → IsWorkedOnce n h

  -- each key that a caller asked lies in the closure of the keys asked on an empty chain; where no
  -- work is left it is published, if those are or nobody abandoned
  pub record IsAskedUnder (n : ℕ) (h : List (Event K A)) : Type 0 where
    pub under : (k : K) → IsIn k (keys_of (asks h)) → IsUnder (keys_of (roots n h)) k
    pub published :
        AreIdle (replay cmp n h).callers → ArePublished (replay cmp n h) (keys_of (roots n h))
        → ArePublished (replay cmp n h) (keys_of (asks h))
    pub ended : HasNoAbandon h → AreIdle (replay cmp n h).callers
        → ArePublished (replay cmp n h) (keys_of (asks h))

  abbrev pub AskedUnder : Type 0
  AskedUnder = (n : ℕ) (h : List (Event K A)) → Legal cmp r n h → IsAskedUnder n h

  -- the events of one caller
  abbrev pub events_of : ℕ → List (Event K A) → List (Event K A)
  events_of c h = filter (λ e. caller_of e == c) h

  -- the event is an Ask, a Publish or an Abandon
  abbrev pub IsNoLook : Event K A → Type 0
  IsNoLook (Look c) = ⊥
  IsNoLook _ = Unit {0}

  -- what is legal for the caller after h, and is no Look, is legal after the longer history, in
  -- which the caller has done no more; and its chain and what it waits for are the same in both
  pub record IsUnmoved (n : ℕ) (h further : List (Event K A)) (c : ℕ) : Type 0 where
    pub legal :
        (e : Event K A) → caller_of e ≡ c → IsNoLook e
        → Legal cmp r n (h ++ e ∷ []) → Legal cmp r n ((h ++ further) ++ e ∷ [])
    pub same : caller_at (replay cmp n (h ++ further)).callers c
        ≡ caller_at (replay cmp n h).callers c

  abbrev pub UnmovedByOthers : Type 0
  UnmovedByOthers =
      (n : ℕ) (h further : List (Event K A)) (c : ℕ)
      → 1 ≤ c → Legal cmp r n h → Legal cmp r n (h ++ further)
      → events_of c (h ++ further) ≡ events_of c h
      → IsUnmoved n h further c

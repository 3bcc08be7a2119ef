-- Legal histories: each caller asks what its last key needs, and publishes what its last key's body
-- gives.
use Rattle.std.specs.Prelude.{◌≡◌, ◌≢◌, ℕ, ◌==◌, List, [], ◌∷◌, ◌++◌, filter, Option, Some, None, IsSome}
use Rattle.std.specs.List.{AllByRecursion}
use Rattle.std.specs.declared.cmp.Ordering.{Ordering}
use Rattle.def_query.specs.Keys.{IsIn}
use Rattle.def_query.specs.Map.{get}
use Rattle.def_query.specs.Meaning.{Meaning}
use Rattle.def_query.specs.Settles.{Depends}
use Rattle.def_query.specs.declared.step.Step.TheVariants.{Done}
use Rattle.def_core.specs.declared.event.Event.{Event}
use Rattle.def_core.specs.declared.event.Event.TheVariants.{Ask, Publish, Look, Abandon}
use Rattle.def_core.specs.declared.outcome.Outcome.{Outcome}
use Rattle.def_core.specs.declared.outcome.Outcome.TheVariants.{Circle, Wait}
use Rattle.def_core.specs.State.{caller_at, last}
use Rattle.def_core.specs.Replay.{caller_of, outcome, replay, steps, Fits}

module _ {K A : Type 0} (cmp : K → K → Ordering) (r : Meaning K A) where
  -- the events of one caller, each with what it came to
  abbrev pub steps_of : ℕ → List (Event K A) → ℕ → List (Event K A × Outcome (List K))
  steps_of n h c = filter (λ s. caller_of s.0 == c) (steps cmp n h)

  -- the pair that an event told: the asked key with the answer that tells the cycle that the Ask
  -- came to
  abbrev pub pair_of : Event K A → Outcome (List K) → List (K × A)
  pair_of (Ask c k) (Circle y) = (k, r.circular y) ∷ []
  pair_of _ _ = []

  abbrev pub pair_of_last : Option (Event K A × Outcome (List K)) → List (K × A)
  pair_of_last None = []
  pair_of_last (Some s) = pair_of s.0 s.1

  -- the pair that the caller's last event told, where this was an Ask that came to a cycle
  abbrev pub told : ℕ → List (Event K A) → ℕ → List (K × A)
  told n h c = pair_of_last (last (steps_of n h c))

  -- the last key of the caller's chain
  abbrev pub top : ℕ → List (Event K A) → ℕ → Option K
  top n h c = last (caller_at (replay cmp n h).callers c).chain

  -- with t as its last key the caller has asked k, and it has kept its claim of t ever since
  pub record HasAsked (n : ℕ) (h : List (Event K A)) (c : ℕ) (t k : K) : Type 0 where
    pub before : List (Event K A)
    pub behind : List (Event K A)
    pub is : h ≡ before ++ Ask c k ∷ behind
    pub as_last : top n before c ≡ Some t
    pub since :
        (mid rest : List (Event K A)) → behind ≡ mid ++ rest
        → IsIn t (caller_at (replay cmp n (before ++ Ask c k ∷ mid)).callers c).chain

  -- k is what t, the last key of the caller's chain, needs next
  pub record IsNext (n : ℕ) (h : List (Event K A)) (c : ℕ) (t k : K) : Type 0 where
    pub depends : Depends cmp r t k
    -- every earlier need of t is published
    pub earlier : AllByRecursion
        (λ p. IsSome (get cmp (replay cmp n h).published p.0)) depends.earlier
    pub once : ¬ HasAsked n h c t k
    pub untold : told n h c ≡ []

  -- on an empty chain each key may be asked
  abbrev pub MayAsk : ℕ → List (Event K A) → ℕ → K → Option K → Type 0
  MayAsk n h c k None = Unit {0}
  MayAsk n h c k (Some t) = IsNext n h c t k

  -- the body of the last key gives the answer, from the published pairs and the one that was told
  abbrev pub MayPublish : ℕ → List (Event K A) → ℕ → A → Option K → Type 0
  MayPublish n h c a None = ⊥
  MayPublish n h c a (Some t) = r.body t (told n h c ++ (replay cmp n h).published) ≡ Done a

  -- what is asked of the event beside that it fits; a Look that finds its key still claimed is no
  -- event
  abbrev pub MayBe : ℕ → List (Event K A) → Event K A → Type 0
  MayBe n h (Ask c k) = MayAsk n h c k (top n h c)
  MayBe n h (Publish c a) = MayPublish n h c a (top n h c)
  MayBe n h (Look c) = (w : ℕ) → outcome cmp (replay cmp n h) (Look c) ≢ Wait w
  MayBe n h (Abandon c) = Unit {0}

  -- the event may follow the history of n callers
  pub record MayFollow (n : ℕ) (h : List (Event K A)) (e : Event K A) : Type 0 where
    pub fits : Fits cmp (replay cmp n h) e
    pub may : MayBe n h e

  -- each event of the history may follow those before it
  abbrev pub Legal : ℕ → List (Event K A) → Type 0
  Legal n h =
      (before : List (Event K A)) (e : Event K A) (behind : List (Event K A))
      → h ≡ before ++ e ∷ behind → MayFollow n before e

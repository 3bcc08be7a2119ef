-- Callers, the keys that they have claimed, and the keys that are published.
use Rattle.std.specs.Prelude.{◌≡◌, ℕ, ◌-◌, List, [], ◌∷◌, ◌++◌, length, replicate, slice_index_or, slice_set, Option, Some, None}
use Rattle.std.specs.declared.cmp.Ordering.{Ordering}
use Rattle.def_query.specs.Map.{get}

-- what a caller has claimed and not published, the first claimed first, and what it waits for
pub record Caller (K : Type 0) : Type 0 where
  pub chain : List K
  pub awaits : Option K

-- the published pairs, the latest first, and the callers in the order of their numbers
pub record State (K A : Type 0) : Type 0 where
  pub published : List (K × A)
  pub callers : List (Caller K)

-- the last element
abbrev pub last : {X : Type 0} → List X → Option X
last [] = None
last (x ∷ []) = Some x
last (x ∷ y ∷ xs) = last (y ∷ xs)

-- all but the last element
abbrev pub without_last : {X : Type 0} → List X → List X
without_last [] = []
without_last (x ∷ []) = []
without_last (x ∷ y ∷ xs) = x ∷ without_last (y ∷ xs)

module _ {K : Type 0} where
  -- a caller that has claimed nothing and does not wait
  abbrev pub idle : Caller K
  idle = record { chain = []; awaits = None }

  -- the caller of this number; the first has the number 1
  abbrev pub caller_at : List (Caller K) → ℕ → Caller K
  caller_at callers c = slice_index_or callers (c - 1) idle

  -- the callers with another in the place of the one of this number
  abbrev pub with_caller : List (Caller K) → ℕ → Caller K → List (Caller K)
  with_caller callers c next = slice_set callers (c - 1) next

  -- the keys of all chains
  abbrev pub claimed : List (Caller K) → List K
  claimed [] = []
  claimed (c ∷ callers) = c.chain ++ claimed callers

  -- all chains are empty and nobody waits
  abbrev pub AreIdle : List (Caller K) → Type 0
  AreIdle callers = (c : ℕ) → caller_at callers c ≡ idle

module _ {K A : Type 0} where
  -- nothing is published, and so many callers have nothing
  abbrev pub opening : ℕ → State K A
  opening n = record { published = []; callers = replicate n idle }

  -- the two have the same answers published, as many of them, and the same callers
  pub record IsSame (cmp : K → K → Ordering) (s t : State K A) : Type 0 where
    pub published : (k : K) → get cmp s.published k ≡ get cmp t.published k
    pub count : length s.published ≡ length t.published
    pub callers : s.callers ≡ t.callers

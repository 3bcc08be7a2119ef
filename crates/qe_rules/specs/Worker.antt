-- How a worker goes on.
use Rattle.std.specs.Prelude.{◌≡◌, ◌⊎◌, ℕ, ◌+◌, ◌<◌, false, List, [], ◌∷◌, ◌++◌, length, take, drop, slice_index_or, Some, None}
use Rattle.std.specs.Ordering.{is_gt}
use Rattle.std.specs.declared.cmp.Ordering.{Ordering}
use Rattle.def_query.specs.Answer.{Answers, IsCorrect}
use Rattle.def_query.specs.Keys.{IsIn, AreDistinct, IsPath, Reaches}
use Rattle.def_query.specs.Map.{get, IsWithin}
use Rattle.def_query.specs.Meaning.{Meaning}
use Rattle.def_query.specs.Settles.{Depends}
use Rattle.qe_rules.specs.Known.{IsSameMap}

-- the keys, begun at a key that is greater than no other one
pub record IsTurned {K : Type 0} (cmp : K → K → Ordering) (keys turned : List K) : Type 0 where
  pub at : ℕ
  pub within : at < length keys
  pub least :
      (i : ℕ) (d : K) → i < length keys
      → is_gt (cmp (slice_index_or keys at d) (slice_index_or keys i d)) ≡ false
  pub is : turned ≡ drop at keys ++ take at keys

-- the last key of the chain leaves it, and its answer is known
pub record IsTaken {K A : Type 0} (cmp : K → K → Ordering) (m : List (K × A)) (chain : List K)
    (n : List (K × A)) (next : List K) (answer : A) : Type 0 where
  pub top : K
  pub was : chain ≡ next ++ top ∷ []
  pub gains : IsSameMap cmp n ((top, answer) ∷ m)
  pub one : length n ≡ length m + 1

module _ {K A : Type 0} (cmp : K → K → Ordering) (r : Meaning K A) where
  -- the map has an answer of the key
  abbrev pub IsKnown : List (K × A) → K → Type 0
  IsKnown m k = (a : A) × (get cmp m k ≡ Some a)

  -- with each of its keys the map has all that this key depends on
  abbrev pub IsClosed : List (K × A) → Type 0
  IsClosed m = (k y : K) → IsKnown m k → Depends cmp r k y → IsKnown m y

  -- all that the map gained lies in the closure of the key under Depends
  abbrev pub GainsWithin : K → List (K × A) → List (K × A) → Type 0
  GainsWithin key m n = (k : K) → IsKnown n k → get cmp m k ≡ None → Reaches (Depends cmp r) key k

  -- the chain's keys are unknown and distinct, and each depends on the next
  pub record IsChain (m : List (K × A)) (chain : List K) : Type 0 where
    pub path : IsPath (Depends cmp r) chain
    pub distinct : AreDistinct chain
    pub unknown : (k : K) → IsIn k chain → get cmp m k ≡ None

  -- the last key of the chain depends on a new one, which becomes the last
  pub record IsPushed (m : List (K × A)) (chain : List K) (n : List (K × A))
      (next : List K) : Type 0 where
    pub before : List K
    pub top : K
    pub need : K
    pub was : chain ≡ before ++ top ∷ []
    pub becomes : next ≡ chain ++ need ∷ []
    pub depends : Depends cmp r top need
    pub new : ¬ IsIn need chain
    pub unknown : get cmp m need ≡ None
    pub same : n ≡ m

  -- the last key of the chain has its answer, and what it depends on is known or in the chain
  pub record IsPut (m : List (K × A)) (chain : List K) (n : List (K × A)) (next : List K) : Type 0
    where
      pub answer : A
      pub taken : IsTaken cmp m chain n next answer
      pub answers : Answers cmp r taken.top answer
      pub around : (y : K) → Depends cmp r taken.top y → IsKnown n y ⊎ IsIn y next

  abbrev pub Advances : List (K × A) → List K → List (K × A) → List K → Type 0
  Advances m chain n next = IsPushed m chain n next ⊎ IsPut m chain n next

  -- a worker that was asked the key, began with the map m, and now has the map n and the chain
  pub record IsWorking (key : K) (m n : List (K × A)) (chain : List K) : Type 0 where
    pub correct : IsCorrect cmp r n
    pub keeps : IsWithin cmp m n
    pub chained : IsChain n chain
    -- the key is known, or the chain begins with it
    pub begun : ((chain ≡ []) × IsKnown n key) ⊎ ((behind : List K) × (chain ≡ key ∷ behind))
    pub gained : GainsWithin key m n
    pub around : (k y : K) → IsKnown n k → get cmp m k ≡ None → Depends cmp r k y
        → IsKnown n y ⊎ IsIn y chain
    -- the keys within the bound that are neither known nor in the chain
    pub rest : List K
    pub left : (k : K) → IsIn k (r.bound key) → get cmp n k ≡ None → ¬ IsIn k chain → IsIn k rest
    pub count : length rest + length chain + length n ≡ length (r.bound key) + length m

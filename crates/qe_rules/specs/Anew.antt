-- Frames that keep the answers that they have used, and work their body anew.
use Rattle.std.specs.Prelude.{◌≡◌, List, [], ◌∷◌, Option, Some, None}
use Rattle.std.specs.List.{flat_map}
use Rattle.std.specs.declared.cmp.Ordering.{Ordering}
use Rattle.def_query.specs.Keys.{IsIn, AreDistinct}
use Rattle.def_query.specs.Map.{get}

module _ {K A : Type 0} (cmp : K → K → Ordering) where
  -- the key with its answer, where there is one
  abbrev pub pair_of : K → Option A → List (K × A)
  pair_of k None = []
  pair_of k (Some a) = (k, a) ∷ []

  -- the pairs of these keys, in this order
  abbrev pub pairs_in : List (K × A) → List K → List (K × A)
  pairs_in m keys = flat_map (λ k. pair_of k (get cmp m k)) keys

  -- the keys are those of the map, each once
  pub record AreKeysOf (m : List (K × A)) (keys : List K) : Type 0 where
    pub distinct : AreDistinct keys
    pub all : (k : K) (a : A) → get cmp m k ≡ Some a → IsIn k keys
    pub only : (k : K) → IsIn k keys → (a : A) × (get cmp m k ≡ Some a)

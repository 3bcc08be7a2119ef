-- Known answers, kept in the order of their keys.
use Rattle.std.specs.Prelude.{◌≡◌, ℕ, ◌<◌, ◌≤◌, List, [], ◌∷◌, length, take, drop, slice_index_or}
use Rattle.std.specs.List.{AllByRecursion}
use Rattle.std.specs.declared.cmp.Ordering.{Ordering}
use Rattle.std.specs.declared.cmp.Ordering.TheVariants.{Less, Equal, Greater}
use Rattle.def_query.specs.Map.{get}

-- the pairs, and for how many more there is room
pub record Pairs (K A : Type 0) : Type 0 where
  pub pairs : List (K × A)
  pub spare : ℕ

module _ {K A : Type 0} (cmp : K → K → Ordering) where
  -- each key is less than those after it, so the keys are distinct
  abbrev pub HasRisingKeys : List (K × A) → Type 0
  HasRisingKeys [] = Unit {0}
  HasRisingKeys (p ∷ m) = AllByRecursion (λ q. cmp p.0 q.0 ≡ Less) m × HasRisingKeys m

  -- the two have the same answers
  abbrev pub IsSameMap : List (K × A) → List (K × A) → Type 0
  IsSameMap m n = (k : K) → get cmp m k ≡ get cmp n k

  -- the key is that of the pair at this place
  pub record IsAt (m : List (K × A)) (key : K) (at : ℕ) : Type 0 where
    pub in_range : at < length m
    pub same : (d : K × A) → cmp (slice_index_or m at d).0 key ≡ Equal

  -- the key would go to this place: lesser keys before it, and greater ones from it on
  pub record IsGapFor (m : List (K × A)) (key : K) (at : ℕ) : Type 0 where
    pub in_range : at ≤ length m
    pub less_before : AllByRecursion (λ p. cmp p.0 key ≡ Less) (take at m)
    pub greater_behind : AllByRecursion (λ p. cmp p.0 key ≡ Greater) (drop at m)

-- Finite maps, as lists of pairs.
use Rattle.std.specs.Prelude.{◌≡◌, List, [], ◌∷◌, Option, Some, None, cond}
use Rattle.std.specs.Ordering.{eq_by_cmp}
use Rattle.std.specs.declared.cmp.Ordering.{Ordering}

module _ {K A : Type 0} (cmp : K → K → Ordering) where
  -- what the map has at the key: that of the first pair of this key
  abbrev pub get : List (K × A) → K → Option A
  get [] k = None
  get (p ∷ m) k = cond (eq_by_cmp cmp k p.0) (Some p.1) (get m k)

  -- n is larger: it has all that m has
  abbrev pub IsWithin : List (K × A) → List (K × A) → Type 0
  IsWithin m n = (k : K) (a : A) → get m k ≡ Some a → get n k ≡ Some a

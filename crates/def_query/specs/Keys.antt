-- Lists of keys, and walks along a relation of keys.
use Rattle.std.specs.Prelude.{◌≡◌, ◌⊎◌, List, [], ◌∷◌, ◌++◌}

module _ {K : Type 0} where
  -- the key is one of the list
  abbrev pub IsIn : K → List K → Type 0
  IsIn k [] = ⊥
  IsIn k (x ∷ xs) = (k ≡ x) ⊎ IsIn k xs

  -- no key of the list stands in it again
  abbrev pub AreDistinct : List K → Type 0
  AreDistinct [] = Unit {0}
  AreDistinct (x ∷ xs) = ¬ IsIn x xs × AreDistinct xs

  -- the first key of the list is related to k, and each later one to the one before it
  abbrev pub IsWalk : (K → K → Type 0) → K → List K → Type 0
  IsWalk R k [] = Unit {0}
  IsWalk R k (x ∷ xs) = R k x × IsWalk R x xs

  -- each key of the list is related to the one before it
  abbrev pub IsPath : (K → K → Type 0) → List K → Type 0
  IsPath R [] = Unit {0}
  IsPath R (x ∷ xs) = IsWalk R x xs

  -- a walk of one step or more goes from x to y
  abbrev pub Leads : (K → K → Type 0) → K → K → Type 0
  Leads R x y = (between : List K) × IsWalk R x (between ++ y ∷ [])

  -- a walk of any number of steps goes from x to y
  abbrev pub Reaches : (K → K → Type 0) → K → K → Type 0
  Reaches R x y = (x ≡ y) ⊎ Leads R x y

-- What is asked of rules.
use Rattle.std.specs.Prelude.{◌≡◌, List, ◌∷◌, None, Some}
use Rattle.std.specs.declared.cmp.Ordering.{Ordering}
use Rattle.std.specs.declared.cmp.Ordering.TheVariants.{Equal}
use Rattle.def_query.specs.Keys.{IsIn}
use Rattle.def_query.specs.Map.{get, IsWithin}
use Rattle.def_query.specs.Meaning.{Meaning}
use Rattle.def_query.specs.Settles.{Depends}
use Rattle.def_query.specs.declared.step.Step.TheVariants.{Needs, Done}

module _ {K A : Type 0} (cmp : K → K → Ordering) (r : Meaning K A) where
  -- what rules keep to
  pub record IsLawful : Type 0 where
    -- keys that compare equal are the same key
    pub one_key : (x y : K) → cmp x y ≡ Equal → x ≡ y
    -- what a body is done with, it is done with under each larger map
    pub done_stays : (k : K) (m n : List (K × A)) (a : A) → r.body k m ≡ Done a → IsWithin cmp m n
        → r.body k n ≡ Done a
    -- what a body needs, it needs under each larger map that lacks it
    pub needs_stay :
        (k : K) (m n : List (K × A)) (y : K)
        → r.body k m ≡ Needs y → IsWithin cmp m n → get cmp n y ≡ None → r.body k n ≡ Needs y
    -- a body needs only what its map lacks
    pub needs_lacking : (k : K) (m : List (K × A)) (y : K) → r.body k m ≡ Needs y
        → get cmp m y ≡ None
    -- a body that uses a key with a circular answer is done with this same answer
    pub circular_stays :
        (k : K) (m : List (K × A)) (y : K) (c : List K)
        → r.body k m ≡ Needs y → r.body k ((y, r.circular c) ∷ m) ≡ Done (r.circular c)
    -- a body is done with a circular answer only where it may use this same answer of some key
    pub circular_used :
        (k : K) (m : List (K × A)) (c : List K)
        → r.body k m ≡ Done (r.circular c) → (y : K) × (get cmp m y ≡ Some (r.circular c))
    -- the bound of a key has this key
    pub bound_has : (k : K) → IsIn k (r.bound k)
    -- and all that one of its keys depends on
    pub bound_closed : (k x y : K) → IsIn x (r.bound k) → Depends cmp r x y → IsIn y (r.bound k)

-- The cycle of a key that does not settle.
use Rattle.std.specs.Prelude.{◌≡◌, List, [], ◌∷◌, ◌++◌}
use Rattle.std.specs.List.{AllByRecursion}
use Rattle.std.specs.declared.cmp.Ordering.{Ordering}
use Rattle.std.specs.declared.cmp.Ordering.TheVariants.{Less}
use Rattle.def_query.specs.Keys.{IsWalk, Leads, Reaches}
use Rattle.def_query.specs.Meaning.{Meaning}
use Rattle.def_query.specs.Settles.{IsSettled, Depends, Stuck}

module _ {K A : Type 0} (cmp : K → K → Ordering) (r : Meaning K A) where
  -- a walk along Depends from k comes to a key from which it comes back to this key
  abbrev pub MeetsCycle : K → Type 0
  MeetsCycle k = (x : K) × Reaches (Depends cmp r) k x × Leads (Depends cmp r) x x

  -- k does not settle; following Stuck from it one comes to x, then to each key of the list in
  -- turn, and back to x, which is less than each of them
  pub record IsCycleFrom (k x : K) (xs : List K) : Type 0 where
    pub unsettled : ¬ IsSettled cmp r k
    pub reached : Reaches (Stuck cmp r) k x
    pub closed : IsWalk (Stuck cmp r) x (xs ++ x ∷ [])
    pub least : AllByRecursion (λ y. cmp x y ≡ Less) xs

  -- the cycle of k: what repeats where one follows Stuck from k, begun at its least key
  abbrev pub IsCycleOf : K → List K → Type 0
  IsCycleOf k [] = ⊥
  IsCycleOf k (x ∷ xs) = IsCycleFrom k x xs

-- The answer of a key.
use Rattle.std.specs.Prelude.{◌≡◌, ◌⊎◌, List, Some}
use Rattle.std.specs.declared.cmp.Ordering.{Ordering}
use Rattle.def_query.specs.Cycle.{IsCycleOf}
use Rattle.def_query.specs.Map.{get}
use Rattle.def_query.specs.Meaning.{Meaning}
use Rattle.def_query.specs.Settles.{Settles}

module _ {K A : Type 0} (cmp : K → K → Ordering) (r : Meaning K A) where
  -- the key does not settle, and the answer tells its cycle
  pub record IsCircular (k : K) (a : A) : Type 0 where
    pub cycle : List K
    pub is_cycle : IsCycleOf cmp r k cycle
    pub told : a ≡ r.circular cycle

  -- the answer tells a cycle
  abbrev pub TellsCycle : A → Type 0
  TellsCycle a = (c : List K) × (a ≡ r.circular c)

  -- the answer of the key: what settles, and else what tells its cycle
  abbrev pub Answers : K → A → Type 0
  Answers k a = Settles cmp r k a ⊎ IsCircular k a

  -- each pair of the map is of a key and its answer
  abbrev pub IsCorrect : List (K × A) → Type 0
  IsCorrect m = (k : K) (a : A) → get cmp m k ≡ Some a → Answers k a

-- Which answers settle, and which keys depend on which.
use Rattle.std.specs.Prelude.{◌≡◌, ℕ, zero, suc, List, [], ◌∷◌, Some}
use Rattle.std.specs.declared.cmp.Ordering.{Ordering}
use Rattle.def_query.specs.Map.{get}
use Rattle.def_query.specs.Meaning.{Meaning}
use Rattle.def_query.specs.declared.step.Step.TheVariants.{Needs, Done}

module _ {K A : Type 0} (cmp : K → K → Ordering) (r : Meaning K A) where
  -- round 0 has no answers; a later round has those that bodies give from the answers of the round
  -- before
  abbrev pub Settled : ℕ → K → A → Type 0
  Settled zero k a = ⊥
  Settled (suc n) k a =
      (m : List (K × A)) × ((y : K) (b : A) → get cmp m y ≡ Some b → Settled n y b)
      × (r.body k m ≡ Done a)

  -- some round has it
  pub record Settles (k : K) (a : A) : Type 0 where
    pub round : ℕ
    pub settled : Settled round k a

  -- the key has an answer that settles
  abbrev pub IsSettled : K → Type 0
  IsSettled k = (a : A) × Settles k a

  -- what the body of k is given in turn, the latest first: each pair is of the key that it needs
  -- after the earlier ones, with an answer that P tells
  abbrev pub IsGiven : (K → A → Type 0) → K → List (K × A) → Type 0
  IsGiven P k [] = Unit {0}
  IsGiven P k (p ∷ m) = (r.body k m ≡ Needs p.0) × P p.0 p.1 × IsGiven P k m

  -- the body of k, given the settled answers of its earlier needs in turn, needs y
  pub record Depends (k y : K) : Type 0 where
    pub earlier : List (K × A)
    pub given : IsGiven Settles k earlier
    pub needs : r.body k earlier ≡ Needs y

  -- y is what k needs last, since it does not settle
  pub record Stuck (k y : K) : Type 0 where
    pub depends : Depends k y
    pub unsettled : ¬ IsSettled y

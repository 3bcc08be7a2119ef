-- The best of lists of costs.
use Rattle.std.specs.Prelude.{◌≡◌, ℕ, ◌<◌, ◌≤◌, List, [], All, length, slice_index, slice_get, Some}
use Rattle.qs_overload.specs.declared.choice.Picked.{Picked}
use Rattle.qs_overload.specs.declared.choice.Picked.TheVariants.{One, Nobody, Tie}

-- a list is at most another one in every place, and less in some
pub record Beats (one other : List ℕ) : Type 0 where
  pub at_most : (place : ℕ) → place < length one → slice_index one place ≤ slice_index other place
  pub place : ℕ
  pub within : place < length one
  pub less : slice_index one place < slice_index other place

-- lists have one length
pub record HaveOneLength (costs : List (List ℕ)) : Type 0 where
  pub len : ℕ
  pub each : All (λ list. length list ≡ len) costs

-- a number is that of a list, and no list beats this one
pub record IsUnbeaten (costs : List (List ℕ)) (number : ℕ) : Type 0 where
  pub list : List ℕ
  pub is : slice_get costs number ≡ Some list
  pub unbeaten : (other : ℕ) (beater : List ℕ) → slice_get costs other ≡ Some beater
      → ¬ Beats beater list

-- What is picked of lists: nobody where there is none, the one where one alone is beaten by none,
-- and else the first two that are beaten by none.
abbrev pub Best : List (List ℕ) → Picked → Type 0
Best costs Nobody = costs ≡ []
Best costs (One number) =
    IsUnbeaten costs number × ((other : ℕ) → IsUnbeaten costs other → other ≡ number)
Best costs (Tie first second) = (first < second) × IsUnbeaten costs first × IsUnbeaten costs second
    × ((other : ℕ) → IsUnbeaten costs other → other < second → other ≡ first)

-- of the same lists the same is picked
abbrev pub BestIsDetermined : Type 0
BestIsDetermined =
    (costs : List (List ℕ)) (one other : Picked) → Best costs one → Best costs other → one ≡ other

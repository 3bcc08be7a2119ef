-- What the parts of this crate promise each other.
use Rattle.std.specs.Prelude.{ℕ, ◌<◌, ◌≤◌, List}
use Rattle.qs_overload.specs.Best.{IsUnbeaten}

-- from one number to before another each list is beaten
abbrev pub AreBeaten : List (List ℕ) → ℕ → ℕ → Type 0
AreBeaten costs from to = (number : ℕ) → from ≤ number → number < to → ¬ IsUnbeaten costs number

-- the first number from one on of a list that is not beaten
pub record IsNextUnbeaten (costs : List (List ℕ)) (from number : ℕ) : Type 0 where
  pub reached : from ≤ number
  pub unbeaten : IsUnbeaten costs number
  pub first : AreBeaten costs from number

-- What contracts see of a list of roots, and what fetches do to it.
use Rattle.std.specs.Prelude.{◌≡◌, ℕ, ◌+◌, ◌≤◌, ◌⊎◌, ◌≢◌, Bool, IsTrue, List, [], ◌∷◌, Option, Some}
use Rattle.def_sources.specs.Limits.{most_bytes}
use Rattle.sl_io.specs.Faults.{Rose}
use Rattle.sl_io.specs.Root.{Fetches}
use Rattle.sl_io.specs.declared.root.Fetched.{Fetched}
use Rattle.sl_io.specs.declared.root.Fetched.TheVariants.{Absent, Failed}

-- a root: the modules that it holds, where it tells them, whether no fetch changes them, and how
-- many faults there were
pub record RootState : Type 0 where
  pub files : Option (List (List ℕ × List ℕ))
  pub steady : Bool
  pub faults : ℕ

-- what contracts see of one root
abbrev pub root_state : Option (List (List ℕ × List ℕ)) → Bool → ℕ → RootState
root_state files steady faults = record { files = files; steady = steady; faults = faults }

-- the roots tell these modules, and no fetch changes them
abbrev pub Tell : List RootState → List (List (List ℕ × List ℕ)) → Type 0
Tell [] [] = Unit {0}
Tell [] (files ∷ maps) = ⊥
Tell (root ∷ roots) [] = ⊥
Tell (root ∷ roots) (files ∷ maps) =
    (root.files ≡ Some files) × IsTrue root.steady × Tell roots maps

-- What fetches may do to a root: its count of faults does not fall, it stays as steady as it was,
-- and where it is steady it holds what it held.
pub record Keeps (before after : RootState) : Type 0 where
  pub never_falls : before.faults ≤ after.faults
  pub as_steady : after.steady ≡ before.steady
  pub files : IsTrue before.steady → after.files ≡ before.files

-- what fetches may do to a list of roots, each in its place
abbrev pub Keep : List RootState → List RootState → Type 0
Keep [] [] = Unit {0}
Keep [] (after ∷ roots) = ⊥
Keep (before ∷ roots) [] = ⊥
Keep (before ∷ roots) (after ∷ others) = Keeps before after × Keep roots others

-- one fetch of a name, of which this is the answer
pub record Fetch (name : List ℕ) (answer : Fetched) (before after : RootState) : Type 0 where
  pub fetches : Fetches answer most_bytes name before.files
  pub failed : answer ≡ Failed → Rose before.faults after.faults
  pub keeps : Keeps before after

-- Roots are asked for a name in order, each once, until one does not answer `Absent`: so many are
-- asked, and the last of them gives the answer. Those behind it are left as they are.
abbrev pub Ask : List ℕ → ℕ → Fetched → List RootState → List RootState → Type 0
Ask name asked answer [] after = (asked ≡ 0) × (answer ≡ Absent) × (after ≡ [])
Ask name asked answer (root ∷ before) [] = ⊥
Ask name asked answer (root ∷ before) (now ∷ after) =
    (Fetch name answer root now × (answer ≢ Absent) × (asked ≡ 1) × (after ≡ before))
    ⊎ (Fetch name Absent root now
    × ((further : ℕ) × (asked ≡ further + 1) × Ask name further answer before after))

-- Which sources the maps of the roots give, and where the walk over them meets a limit.
use Rattle.std.specs.Prelude.{◌≡◌, ℕ, ◌<◌, ◌≤◌, List, length, Some, None, IsSomeAnd}
use Rattle.std.specs.List.{All, Contains, IsDistinct}
use Rattle.std.specs.Str.{bytes_eq}
use Rattle.def_sources.specs.Limits.{most_bytes, most_modules}
use Rattle.def_sources.specs.Maps.{bytes_in}
use Rattle.def_sources.specs.Sources.{Sources, names_of, mentioned, next_name, gathered}

-- the sources are what the walk has gathered where it ends
abbrev pub Loaded : List (List (List ℕ × List ℕ)) → List (List ℕ) → Sources → Type 0
Loaded maps names sources =
    (steps : ℕ) × (sources ≡ gathered maps names steps) × (next_name names sources ≡ None)

-- the walk takes a name
abbrev pub Takes : List (List (List ℕ × List ℕ)) → List (List ℕ) → List ℕ → Type 0
Takes maps names name = (steps : ℕ) × (next_name names (gathered maps names steps) ≡ Some name)

-- the walk takes a name whose module has too many bytes
abbrev pub MeetsTooLarge : List (List (List ℕ × List ℕ)) → List (List ℕ) → List ℕ → Type 0
MeetsTooLarge maps names name =
    Takes maps names name × IsSomeAnd (bytes_in maps name) (λ bytes. most_bytes < length bytes)

-- the walk finds a module more than there may be
abbrev pub MeetsTooMany : List (List (List ℕ × List ℕ)) → List (List ℕ) → Type 0
MeetsTooMany maps names =
    (steps : ℕ) × (most_modules < length (gathered maps names steps).modules)

-- Sources that some roots may have given for these names: the names are distinct, each name that is
-- mentioned is among them, and the limits are kept.
pub record WellFormed (names : List (List ℕ)) (sources : Sources) : Type 0 where
  pub distinct : IsDistinct bytes_eq (names_of sources)
  pub complete : All (Contains (names_of sources)) (mentioned names sources)
  pub few : length sources.modules ≤ most_modules
  pub small : All (λ (file : List ℕ × List ℕ). length file.1 ≤ most_bytes) sources.modules

-- What follows from the definitions.
use Rattle.std.specs.Prelude.{◌≡◌, ℕ, List}
use Rattle.def_sources.specs.Loaded.{Loaded}
use Rattle.def_sources.specs.Sources.{Sources}

-- sources that are loaded from the same maps for the same names are the same
abbrev pub LoadedOnce : Type 0
LoadedOnce = (maps : List (List (List ℕ × List ℕ))) (names : List (List ℕ)) (one other : Sources)
    → Loaded maps names one → Loaded maps names other → one ≡ other

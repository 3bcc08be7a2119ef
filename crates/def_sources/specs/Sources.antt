-- The sources of a request: names are taken in the order in which they are first mentioned.
use Rattle.std.specs.Prelude.{ℕ, zero, suc, not, List, [], ◌∷◌, ◌++◌, map, Option, Some, None, find}
use Rattle.std.specs.List.{flat_map, list_any}
use Rattle.std.specs.Str.{bytes_eq}
use Rattle.def_sources.specs.Maps.{bytes_in}

-- the modules, as pairs of a name and bytes, in the order in which they were found, and the names
-- that no module was found for
pub record Sources : Type 0 where
  pub modules : List (List ℕ × List ℕ)
  pub absent : List (List ℕ)

-- no modules, and no absent names
abbrev pub nothing : Sources
nothing = record { modules = []; absent = [] }

-- the sources and a further name, with the bytes that were found for it or none
abbrev pub gained : Sources → List ℕ → Option (List ℕ) → Sources
gained sources name (Some bytes) =
    record sources { modules = sources.modules ++ (name, bytes) ∷ [] }
gained sources name None = record sources { absent = sources.absent ++ name ∷ [] }

-- the names of the sources: those of the modules, then the absent ones
abbrev pub names_of : Sources → List (List ℕ)
names_of sources = map (λ (file : List ℕ × List ℕ). file.0) sources.modules ++ sources.absent

-- The names that a module's bytes import, in order. So far no form of a module has imports.
abbrev pub imports : List ℕ → List (List ℕ)
imports bytes = []

-- the names that are mentioned: the given ones, then the imports of each module found, in order
abbrev pub mentioned : List (List ℕ) → Sources → List (List ℕ)
mentioned names sources =
    names ++ flat_map (λ (file : List ℕ × List ℕ). imports file.1) sources.modules

-- the first name that is mentioned and was not taken yet
abbrev pub next_name : List (List ℕ) → Sources → Option (List ℕ)
next_name names sources =
    find (λ name. not (list_any (bytes_eq name) (names_of sources))) (mentioned names sources)

-- the sources with the name that the walk comes to next, or as they are where there is none
abbrev pub taken : List (List (List ℕ × List ℕ)) → Sources → Option (List ℕ) → Sources
taken maps sources (Some name) = gained sources name (bytes_in maps name)
taken maps sources None = sources

-- what the walk over the maps has gathered after so many steps
abbrev pub gathered : List (List (List ℕ × List ℕ)) → List (List ℕ) → ℕ → Sources
gathered maps names zero = nothing
gathered maps names (suc steps) =
    let sources = gathered maps names steps in
    taken maps sources (next_name names sources)

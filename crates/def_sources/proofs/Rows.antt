-- The definitions computed on small maps.
use Rattle.std.proofs.Common.{ℕ, List, [], ◌∷◌, refl}
use Rattle.std.specs.Prelude.{codes}
use Rattle.def_sources.specs.Loaded.{Loaded, Takes}

-- a folder with an empty module `m` and a module `n`, and its folder `lib` with other ones
maps : List (List (List ℕ × List ℕ))
maps = ((codes "m", []) ∷ (codes "n", codes "near") ∷ []) ∷ ((codes "n", codes "far") ∷ (codes "f", codes "last") ∷ []) ∷ []

-- an empty module is found
empty_module : Loaded maps (codes "m" ∷ []) record { modules = (codes "m", []) ∷ []; absent = [] }
unfolding maps
empty_module = (1, refl, refl)

-- a name that no map has is absent
absent_module : Loaded maps (codes "q" ∷ []) record { modules = []; absent = codes "q" ∷ [] }
unfolding maps
absent_module = (1, refl, refl)

-- the first map that has a name counts, and a name that is mentioned again is not taken again
several : Loaded maps (codes "f" ∷ codes "q" ∷ codes "n" ∷ codes "f" ∷ [])
    record { modules = (codes "f", codes "last") ∷ (codes "n", codes "near") ∷ []; absent = codes "q" ∷ [] }
unfolding maps
several = (3, refl, refl)

-- nothing is loaded for no names
no_names : Loaded maps [] record { modules = []; absent = [] }
no_names = (0, refl, refl)

takes_second : Takes maps (codes "f" ∷ codes "q" ∷ []) (codes "q")
unfolding maps
takes_second = (1, refl)

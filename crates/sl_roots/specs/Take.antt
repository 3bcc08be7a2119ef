-- What the taking of one name does.
use Rattle.std.specs.Prelude.{◌≡◌, ℕ, ◌≤◌, ◌⊎◌, List, length, Some, None}
use Rattle.def_sources.specs.Limits.{most_modules}
use Rattle.def_sources.specs.Sources.{Sources, gained}
use Rattle.sl_io.specs.declared.root.Fetched.{Fetched}
use Rattle.sl_io.specs.declared.root.Fetched.TheVariants.{Found, Absent, TooLarge, Failed}
use Rattle.sl_roots.specs.Load.{counted}
use Rattle.sl_roots.specs.State.{RootState, Ask}
use Rattle.sl_roots.specs.declared.refusal.LoadRefusal.{LoadRefusal}
use Rattle.sl_roots.specs.declared.refusal.LoadRefusal.TheVariants.{Fault, ModuleTooLarge, TooManyModules, NoMemory}

-- the sources gained the name, with the bytes that were found or as absent
abbrev pub Gains : List ℕ → Sources → Sources → List RootState → List RootState → Type 0
Gains name sources more before after =
    ((bytes : List ℕ) × (number : ℕ) × Ask name number (Found bytes) before after
    × (more ≡ gained sources name (Some bytes)))
    ⊎ ((number : ℕ) × Ask name number Absent before after × (more ≡ gained sources name None))

-- why the name was not taken
abbrev pub Fails : LoadRefusal → List ℕ → Sources → List RootState → List RootState → Type 0
Fails (Fault root told) name sources before after =
    (told ≡ name) × ((number : ℕ) × (root ≡ counted number) × Ask name number Failed before after)
Fails (ModuleTooLarge told) name sources before after =
    (told ≡ name) × ((number : ℕ) × Ask name number TooLarge before after)
Fails TooManyModules name sources before after =
    (most_modules ≤ length sources.modules)
    × ((bytes : List ℕ) × (number : ℕ) × Ask name number (Found bytes) before after)
Fails NoMemory name sources before after =
    (number : ℕ) × (answer : Fetched) × Ask name number answer before after

-- How sources are loaded from roots.
use Rattle.std.specs.Prelude.{◌≡◌, ℕ, ◌+◌, ◌-◌, ◌^◌, ◌≤◌, ◌⊎◌, min, List, [], ◌∷◌, length, take, Some, None, ⊤}
use Rattle.def_sources.specs.Limits.{most_modules}
use Rattle.def_sources.specs.Loaded.{Takes, MeetsTooLarge, MeetsTooMany}
use Rattle.def_sources.specs.Maps.{bytes_in}
use Rattle.def_sources.specs.Sources.{Sources, nothing, gained, next_name}
use Rattle.sl_io.specs.Faults.{Rose}
use Rattle.sl_io.specs.declared.root.Fetched.{Fetched}
use Rattle.sl_io.specs.declared.root.Fetched.TheVariants.{Found, Absent, TooLarge, Failed}
use Rattle.sl_roots.specs.State.{RootState, Ask}
use Rattle.sl_roots.specs.declared.source_set.SourceSet.{SourceSet}
use Rattle.sl_roots.specs.declared.refusal.LoadRefusal.{LoadRefusal}
use Rattle.sl_roots.specs.declared.refusal.LoadRefusal.TheVariants.{Fault, ModuleTooLarge, TooManyModules, NoMemory}

-- the modules and the absent names of a set
abbrev pub sources_of : SourceSet → Sources
sources_of set = record { modules = set.modules; absent = set.absent }

-- Sources are gathered from the roots `before` for these names, and the roots are then as in the
-- last place. Each name is taken once, in the order of first mention, and the roots are asked for
-- it as the fetches for the names before it left them.
pub data Gathers (names : List (List ℕ)) (before : List RootState) : Sources → List RootState
    → Type 0 where
  begins : Gathers names before nothing before
  finds : (sources : Sources) (roots after : List RootState) (name bytes : List ℕ) (asked : ℕ)
      → Gathers names before sources roots
      → next_name names sources ≡ Some name
      → Ask name asked (Found bytes) roots after
      → Gathers names before (gained sources name (Some bytes)) after
  misses : (sources : Sources) (roots after : List RootState) (name : List ℕ) (asked : ℕ)
      → Gathers names before sources roots
      → next_name names sources ≡ Some name
      → Ask name asked Absent roots after
      → Gathers names before (gained sources name None) after

-- the sources are all that was gathered, and the limit on their number is kept
pub record Loads (names : List (List ℕ)) (sources : Sources)
    (before after : List RootState) : Type 0 where
  pub gathers : Gathers names before sources after
  pub ended : next_name names sources ≡ None
  pub few : length sources.modules ≤ most_modules

-- Names were taken within the limits, and then the roots were asked for one more: this is its name,
-- how many roots were asked for it, and the answer. No root was asked for anything after that.
pub record Stops (names : List (List ℕ)) (name : List ℕ) (number : ℕ) (answer : Fetched)
    (before after : List RootState) : Type 0 where
  pub sources : Sources
  pub roots : List RootState
  pub gathers : Gathers names before sources roots
  pub few : length sources.modules ≤ most_modules
  pub next : next_name names sources ≡ Some name
  pub ask : Ask name number answer roots after

-- a root's number as a refusal gives it: a number past the last one of 32 bits is given as that one
abbrev pub counted : ℕ → ℕ
counted number = min number (2 ^ 32 - 1)

-- why loading ended before all names were taken, and where
abbrev pub Refuses : LoadRefusal → List (List ℕ) → List RootState → List RootState → Type 0
Refuses (Fault root name) names before after =
    (number : ℕ) × (root ≡ counted number) × Stops names name number Failed before after
Refuses (ModuleTooLarge name) names before after =
    (number : ℕ) × Stops names name number TooLarge before after
Refuses TooManyModules names before after =
    (sources : Sources) × Gathers names before sources after
    × (length sources.modules ≡ most_modules + 1)
Refuses NoMemory names before after =
    ((sources : Sources) × Gathers names before sources after)
    ⊎ ((name : List ℕ) × (number : ℕ) × (answer : Fetched)
    × Stops names name number answer before after)

-- the count of faults of the root with this number, counted from 1, rose
abbrev pub RoseAt : ℕ → List RootState → List RootState → Type 0
RoseAt number [] after = ⊥
RoseAt number (root ∷ before) [] = ⊥
RoseAt number (root ∷ before) (asked ∷ after) =
    ((number ≡ 1) × Rose root.faults asked.faults)
    ⊎ ((further : ℕ) × (number ≡ further + 1) × RoseAt further before after)

-- the fault that a refusal tells is shown by the count of its root
abbrev pub ShowsFault : LoadRefusal → List RootState → List RootState → Type 0
ShowsFault (Fault root name) before after =
    (number : ℕ) × (root ≡ counted number) × RoseAt number before after
ShowsFault (ModuleTooLarge name) before after = ⊤
ShowsFault TooManyModules before after = ⊤
ShowsFault NoMemory before after = ⊤

-- What a refusal says of the maps of roots that tell them and are steady: the walk over them takes
-- the name of a fault, and no map before that root's has it; and a limit is one that the walk
-- meets.
abbrev pub RefusesTold : LoadRefusal → List (List ℕ) → List (List (List ℕ × List ℕ)) → Type 0
RefusesTold (Fault root name) names maps =
    Takes maps names name × (bytes_in (take (root - 1) maps) name ≡ None)
RefusesTold (ModuleTooLarge name) names maps = MeetsTooLarge maps names name
RefusesTold TooManyModules names maps = MeetsTooMany maps names
RefusesTold NoMemory names maps = ⊤

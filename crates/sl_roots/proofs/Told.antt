-- What roots that tell their modules answer.
use Rattle.std.proofs.Common.{◌≡◌, ◌≢◌, ℕ, zero, suc, ◌-◌, ◌^◌, ◌<◌, ◌≤◌, min, IsTrue, List, [], ◌∷◌, length, take, Option, Some, None, IsSomeAnd, refl, sym, subst, ◌∙◌, inl, inr, arith}
use Rattle.std.specs.Option.{option_or}
use Rattle.def_sources.specs.Limits.{most_bytes, most_modules}
use Rattle.def_sources.specs.Loaded.{Takes}
use Rattle.def_sources.specs.Maps.{bytes_in}
use Rattle.sl_io.specs.Root.{bytes_of}
use Rattle.def_sources.specs.Sources.{Sources, gathered}
use Rattle.sl_io.specs.Root.{Fetches}
use Rattle.sl_io.specs.declared.root.Fetched.{Fetched}
use Rattle.sl_io.specs.declared.root.Fetched.TheVariants.{Found, Absent, TooLarge, Failed}
use Rattle.sl_io.specs.declared.root.Fetched.TheVariants as fetched
use Rattle.sl_roots.specs.Load.{Gathers, Stops, Refuses, RefusesTold}
use Rattle.sl_roots.specs.Load.Gathers.{begins, finds, misses}
use Rattle.sl_roots.specs.State.{RootState, Keep, Tell, Ask}
use Rattle.sl_roots.specs.declared.refusal.LoadRefusal.{LoadRefusal}
use Rattle.sl_roots.specs.declared.refusal.LoadRefusal.TheVariants.{Fault, ModuleTooLarge, TooManyModules, NoMemory}
use Rattle.sl_roots.proofs.Kept.{gathers_keeps}

-- the roots still tell these modules
pub tell_kept : (before after : List RootState) (maps : List (List (List ℕ × List ℕ)))
    → Tell before maps → Keep before after → Tell after maps
tell_kept [] [] maps tell keep = tell
tell_kept [] (s ∷ after) maps tell keep = absurd keep
tell_kept (r ∷ before) [] maps tell keep = absurd keep
tell_kept (r ∷ before) (s ∷ after) [] tell keep = absurd tell
tell_kept (r ∷ before) (s ∷ after) (files ∷ maps) tell keep = (
  keep.0.files tell.1 ∙ tell.0,
  subst IsTrue (sym keep.0.as_steady) tell.1,
  tell_kept before after maps tell.2 keep.1,
)

-- what an answer of the last one of so many roots says of their maps
abbrev pub Says : Fetched → ℕ → List ℕ → List (List (List ℕ × List ℕ)) → Type 0
Says (Found bytes) asked name maps = bytes_in maps name ≡ Some bytes
Says Absent asked name maps = bytes_in maps name ≡ None
Says TooLarge asked name maps = IsSomeAnd (bytes_in maps name) (λ bytes. most_bytes < length bytes)
Says Failed asked name maps = bytes_in (take (asked - 1) maps) name ≡ None
Says fetched.NoMemory asked name maps = Unit {0}

first_large : (first second : Option (List ℕ))
    → IsSomeAnd first (λ bytes. most_bytes < length bytes)
    → IsSomeAnd (option_or first second) (λ bytes. most_bytes < length bytes)
first_large None second large = absurd large
first_large (Some bytes) second large = large

-- the first root decides
says_first : (answer : Fetched) (name : List ℕ) (files : List (List ℕ × List ℕ)) (maps : List (List (List ℕ × List ℕ)))
    → Fetches answer most_bytes name (Some files) → answer ≢ Absent → Says answer 1 name (files ∷ maps)
says_first (Found bytes) name files maps fetches other = rw fetches.1 refl
says_first Absent name files maps fetches other = absurd (other refl)
says_first TooLarge name files maps fetches other = first_large (bytes_of files name) (bytes_in maps name) fetches
says_first Failed name files maps fetches other = refl
says_first fetched.NoMemory name files maps fetches other = tt

-- the first root has no module of the name
says_further : (answer : Fetched) (further : ℕ) (name : List ℕ) (files : List (List ℕ × List ℕ)) (maps : List (List (List ℕ × List ℕ)))
    → bytes_of files name ≡ None → Says answer further name maps → Says answer (suc further) name (files ∷ maps)
says_further (Found bytes) further name files maps absent says = rw absent says
says_further Absent further name files maps absent says = rw absent says
says_further TooLarge further name files maps absent says = rw absent says
says_further Failed zero name files maps absent says = refl
says_further Failed (suc further) name files maps absent says =
    let one : suc (suc further) - 1 ≡ suc further = omega arith in
    let less : suc further - 1 ≡ further = omega arith in
    let still : bytes_in (take further maps) name ≡ None = rw less at says in
    rw one (rw absent still)
says_further fetched.NoMemory further name files maps absent says = tt

pub ask_says : (name : List ℕ) (asked : ℕ) (answer : Fetched) (before after : List RootState) (maps : List (List (List ℕ × List ℕ)))
    → Tell before maps → Ask name asked answer before after → Says answer asked name maps
ask_says name asked answer [] after [] tell ask = rw ask.1 refl
ask_says name asked answer [] after (files ∷ maps) tell ask = absurd tell
ask_says name asked answer (root ∷ before) after [] tell ask = absurd tell
ask_says name asked answer (root ∷ before) [] (files ∷ maps) tell ask = absurd ask
ask_says name asked answer (root ∷ before) (now ∷ after) (files ∷ maps) tell (inl decides) =
    let fetches = rw tell.0 at decides.0.fetches in
    rw decides.2 (says_first answer name files maps fetches decides.1)
ask_says name asked answer (root ∷ before) (now ∷ after) (files ∷ maps) tell (inr passes) =
    let fetches = rw tell.0 at passes.0.fetches in
    let further = passes.1.0 in
    let number : asked ≡ suc further = omega (arith, passes.1.1) in
    rw number (says_further answer further name files maps fetches (ask_says name further answer before after maps tell.2 passes.1.2))

-- the sources are what the walk over the maps has gathered
pub gathers_walk : (names : List (List ℕ)) (before : List RootState) (maps : List (List (List ℕ × List ℕ))) (sources : Sources) (after : List RootState)
    → Tell before maps → Gathers names before sources after
    → (steps : ℕ) × (sources ≡ gathered maps names steps)
gathers_walk names before maps sources after tell begins = (0, refl)
gathers_walk names before maps sources after tell (finds held roots last name bytes asked gathers next ask) =
    let walk = gathers_walk names before maps held roots tell gathers in
    let still = tell_kept before roots maps tell (gathers_keeps names before held roots gathers) in
    let says = ask_says name asked (Found bytes) roots last maps still ask in
    (suc walk.0, rw (sym walk.1) (rw next (rw says refl)))
gathers_walk names before maps sources after tell (misses held roots last name asked gathers next ask) =
    let walk = gathers_walk names before maps held roots tell gathers in
    let still = tell_kept before roots maps tell (gathers_keeps names before held roots gathers) in
    let says = ask_says name asked Absent roots last maps still ask in
    (suc walk.0, rw (sym walk.1) (rw next (rw says refl)))

-- fewer maps have no module of the name either
option_none : (first second : Option (List ℕ)) → option_or first second ≡ None → (first ≡ None) × (second ≡ None)
option_none None second none = (refl, none)
option_none (Some bytes) second none = cc

fewer_maps : (m n : ℕ) (maps : List (List (List ℕ × List ℕ))) (name : List ℕ)
    → m ≤ n → bytes_in (take n maps) name ≡ None → bytes_in (take m maps) name ≡ None
fewer_maps zero n maps name fewer none = refl
fewer_maps (suc m) zero maps name fewer none = absurd (omega arith)
fewer_maps (suc m) (suc n) [] name fewer none = refl
fewer_maps (suc m) (suc n) (files ∷ maps) name fewer none =
    let both = option_none (bytes_of files name) (bytes_in (take n maps) name) none in
    rw both.0 (fewer_maps m n maps name (omega arith) both.1)

-- where the roots told their modules, the walk came to the name, and the answer says something of it
stops_says : (names : List (List ℕ)) (name : List ℕ) (asked : ℕ) (answer : Fetched) (before after : List RootState) (maps : List (List (List ℕ × List ℕ)))
    → Tell before maps → Stops names name asked answer before after
    → Takes maps names name × Says answer asked name maps
stops_says names name asked answer before after maps tell stops =
    let walk = gathers_walk names before maps stops.sources stops.roots tell stops.gathers in
    let still = tell_kept before stops.roots maps tell (gathers_keeps names before stops.sources stops.roots stops.gathers) in
    ((walk.0, rw (sym walk.1) stops.next), ask_says name asked answer stops.roots after maps still stops.ask)

counted_fewer : (last asked root : ℕ) → root ≡ min asked last → root - 1 ≤ asked - 1
counted_fewer last asked root is = omega arith

pub refuses_told : (refusal : LoadRefusal) (names : List (List ℕ)) (before after : List RootState) (maps : List (List (List ℕ × List ℕ)))
    → Tell before maps → Refuses refusal names before after → RefusesTold refusal names maps
refuses_told (Fault root name) names before after maps tell refuses =
    let told = stops_says names name refuses.0 Failed before after maps tell refuses.2 in
    (told.0, fewer_maps (root - 1) (refuses.0 - 1) maps name (counted_fewer (2 ^ 32 - 1) refuses.0 root refuses.1) told.1)
refuses_told (ModuleTooLarge name) names before after maps tell refuses =
    stops_says names name refuses.0 TooLarge before after maps tell refuses.1
refuses_told TooManyModules names before after maps tell refuses =
    let walk = gathers_walk names before maps refuses.0 after tell refuses.1 in
    let many : most_modules < length refuses.0.modules = omega (arith, refuses.2) in
    (walk.0, rw walk.1 at many)
refuses_told NoMemory names before after maps tell refuses = tt

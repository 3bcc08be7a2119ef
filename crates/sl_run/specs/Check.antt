-- What each status says of `check MODULE`.
use Rattle.std.specs.Prelude.{◌≡◌, ℕ, ◌+◌, List, [], ◌∷◌, length}
use Rattle.def_sources.specs.Loaded.{Loaded, WellFormed}
use Rattle.def_sources.specs.Sources.{Sources}
use Rattle.def_reply.specs.Text.{only, out_text}
use Rattle.def_reply.specs.Worked.{AreWorked}
use Rattle.sl_base.specs.declared.diag.Diag.{Diag}
use Rattle.sl_key.specs.declared.key.Key.{Key}
use Rattle.sl_key.specs.declared.request.Reply.{Reply}
use Rattle.sl_key.specs.declared.request.Reply.TheVariants.{Made, Failed}
use Rattle.sl_key.specs.declared.request.Request.{Request}
use Rattle.sl_key.specs.declared.request.Request.TheVariants.{Make}
use Rattle.sl_key.specs.declared.request.Term.TheVariants.{Load}
use Rattle.sl_roots.specs.Load as load
use Rattle.sl_roots.specs.State.{Tell}
use Rattle.sl_roots.specs.declared.refusal.LoadRefusal.{LoadRefusal}
use Rattle.sl_roots.specs.declared.refusal.LoadRefusal.TheVariants as refusal
use Rattle.sl_run.specs.Seen.{Seen, SeenRoots, Counted, IsIdle, IsWritten, IsWrittenInPart, Reports}
use Rattle.sl_run.specs.declared.status.Status.{Status}
use Rattle.sl_run.specs.declared.status.Status.TheVariants.{Done, Diagnosed, Usage, InputTooLarge, TooManyModules, ModuleTooLarge, SourceFault, ReadFault, WriteFault, NoMemory}

-- The roots gave these sources for the names. Where they tell what they hold and are steady, the
-- sources are those of their maps.
pub record IsLoaded (names : List (List ℕ)) (sources : Sources) (roots : SeenRoots) : Type 0 where
  pub loads : load.Loads names sources roots.before roots.now
  pub well_formed : WellFormed names sources
  pub told : (maps : List (List (List ℕ × List ℕ))) → Tell roots.before maps
      → Loaded maps names sources

-- Loading ended with this refusal. A fault is shown by the count of its root, and where the roots
-- tell what they hold and are steady, the refusal is one of their maps.
pub record IsRefused (names : List (List ℕ)) (reason : LoadRefusal) (roots : SeenRoots)
    : Type 0 where
  pub refuses : load.Refuses reason names roots.before roots.now
  pub fault : load.ShowsFault reason roots.before roots.now
  pub told : (maps : List (List (List ℕ × List ℕ))) → Tell roots.before maps
      → load.RefusesTold reason names maps

-- a request for the module of a name
abbrev pub load_of : List ℕ → Request
load_of name = Make (Load name)

-- The module was loaded, this is the reply to one caller's one request for it, and this is the text
-- that tells it. One step was counted for each key that the request comes to.
pub record IsChecked (name : List ℕ) (roots : SeenRoots) (steps : Counted) (reply : Reply)
    (text : List ℕ) : Type 0 where
  pub sources : Sources
  pub loaded : IsLoaded (name ∷ []) sources roots
  pub keys : List Key
  pub worked : AreWorked sources (only (load_of name) reply) keys
  pub told : text ≡ out_text (only (load_of name) reply) (length keys)
  pub rose : steps.now ≡ steps.before + length keys

-- what each status says of the roots, the steps, the result and the errors
abbrev pub EndsCheck : Status → List ℕ → SeenRoots → Counted → Seen → Seen → Type 0
EndsCheck Done name roots steps out err =
    (text : List ℕ) × IsChecked name roots steps Made text × IsWritten out text
EndsCheck Diagnosed name roots steps out err =
    (diagnostics : List Diag) × (text : List ℕ)
    × IsChecked name roots steps (Failed diagnostics) text × IsWritten out text
EndsCheck Usage name roots steps out err = ⊥
EndsCheck InputTooLarge name roots steps out err = ⊥
EndsCheck TooManyModules name roots steps out err =
    IsRefused (name ∷ []) refusal.TooManyModules roots × IsIdle steps × Reports TooManyModules err
EndsCheck (ModuleTooLarge told) name roots steps out err =
    IsRefused (name ∷ []) (refusal.ModuleTooLarge told) roots × IsIdle steps
    × Reports (ModuleTooLarge told) err
EndsCheck (SourceFault root told) name roots steps out err =
    IsRefused (name ∷ []) (refusal.Fault root told) roots × IsIdle steps
    × Reports (SourceFault root told) err
EndsCheck ReadFault name roots steps out err = ⊥
EndsCheck (WriteFault n) name roots steps out err =
    (reply : Reply) × (text : List ℕ) × IsChecked name roots steps reply text
    × IsWrittenInPart out text n × Reports (WriteFault n) err
EndsCheck NoMemory name roots steps out err = Reports NoMemory err

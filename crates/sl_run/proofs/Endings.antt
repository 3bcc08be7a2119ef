-- How the steps of a command make its ending.
use Rattle.std.proofs.Common.{◌≡◌, ℕ, ◌≤◌, List, [], ◌∷◌, ◌++◌, inl, inr, sym, ap, subst, ◌∙◌, append-nil}
use Rattle.std.proofs.lemmas.Bool.{false≢true}
use Rattle.std.specs.Prelude.{◌≢◌, Bool, true, false, Option, Some, None, IfSome, Result, Ok, Err, IfOk, IfErr, MatchResult, length}
use Rattle.sl_key.specs.declared.request.Reply.{Reply}
use Rattle.sl_key.specs.declared.request.Reply.TheVariants.{Made, Failed}
use Rattle.sl_io.specs.Source.{Gives}
use Rattle.def_sources.specs.Limits.{most_bytes}
use Rattle.def_sources.specs.Loaded.{Loaded, WellFormed}
use Rattle.def_sources.specs.Sources.{Sources}
use Rattle.sl_roots.specs.Load as load
use Rattle.sl_roots.specs.State.{RootState, Tell}
use Rattle.sl_roots.specs.declared.refusal.LoadRefusal.{LoadRefusal}
use Rattle.sl_roots.specs.declared.refusal.LoadRefusal.TheVariants.{NoMemory as NoMemoryLeft}
use Rattle.sl_roots.specs.declared.source_set.SourceSet.{SourceSet}
use Rattle.sl_run.specs.declared.compile.Compilation.TheVariants.{Code, Diagnostics}
use Rattle.sl_run.specs.declared.status.Status.{Status}
use Rattle.sl_run.specs.declared.status.Status.TheVariants.{Done, Diagnosed, Usage, InputTooLarge, TooManyModules, ModuleTooLarge, SourceFault, ReadFault, WriteFault, NoMemory}
use Rattle.sl_run.specs.Check.{EndsCheck, IsChecked, IsLoaded, IsRefused}
use Rattle.sl_run.specs.Ending.{Answers, EndsCode, EndsDiagnostics, EndsText, IsCheckedTo, Tells, TellsReply}
use Rattle.sl_run.specs.One.{EndsOne}
use Rattle.sl_run.specs.Seen.{Seen, SeenRoots, Counted, seen, seen_roots, IsRead}

whole_of : (before now : Option (List ℕ)) (text : List ℕ) → Gives before now text → IfSome now (λ rest. rest ≡ []) → IfSome before (λ left. (left ≡ text) × (now ≡ Some []))
whole_of None now text gives end = tt
whole_of (Some left) None text gives end = absurd gives
whole_of (Some left) (Some rest) text gives end = (gives ∙ ap (λ r. text ++ r) end ∙ append-nil text, ap Some end)

-- what was read to its end is the whole input
pub is_read : (before now : Option (List ℕ)) (faults_before faults_now : ℕ) (text : List ℕ) → length text ≤ most_bytes → Gives before now text → IfSome now (λ rest. rest ≡ []) → IsRead (seen before now faults_before faults_now) text
is_read before now faults_before faults_now text short gives end =
    record { short = short; whole = whole_of before now text gives end }

pub ends_code : (status : Status) (entry bytes : List ℕ) (input out err : Seen) → Answers entry input (Code bytes) → EndsCode status out err bytes → EndsOne status entry input out err
ends_code Done entry bytes input out err a ends =
    record { text = a.text; bytes = bytes; read = a.read; compiled = a.compiled; written = ends }
ends_code Diagnosed entry bytes input out err a ends = absurd ends
ends_code Usage entry bytes input out err a ends = absurd ends
ends_code InputTooLarge entry bytes input out err a ends = absurd ends
ends_code TooManyModules entry bytes input out err a ends = absurd ends
ends_code (ModuleTooLarge name) entry bytes input out err a ends = absurd ends
ends_code (SourceFault root name) entry bytes input out err a ends = absurd ends
ends_code ReadFault entry bytes input out err a ends = absurd ends
ends_code (WriteFault n) entry bytes input out err a ends = inl (record {
  text = a.text;
  bytes = bytes;
  read = a.read;
  compiled = a.compiled;
  lost = ends.0;
  reported = ends.1;
})
ends_code NoMemory entry bytes input out err a ends = absurd ends

pub ends_diagnostics : (status : Status) (entry lines : List ℕ) (input out err : Seen) → Answers entry input (Diagnostics lines) → out.now ≡ out.before → EndsDiagnostics status err lines → EndsOne status entry input out err
ends_diagnostics Done entry lines input out err a untouched ends = absurd ends
ends_diagnostics Diagnosed entry lines input out err a untouched ends =
    record { text = a.text; lines = lines; read = a.read; compiled = a.compiled; written = ends }
ends_diagnostics Usage entry lines input out err a untouched ends = absurd ends
ends_diagnostics InputTooLarge entry lines input out err a untouched ends = absurd ends
ends_diagnostics TooManyModules entry lines input out err a untouched ends = absurd ends
ends_diagnostics (ModuleTooLarge name) entry lines input out err a untouched ends = absurd ends
ends_diagnostics (SourceFault root name) entry lines input out err a untouched ends = absurd ends
ends_diagnostics ReadFault entry lines input out err a untouched ends = absurd ends
ends_diagnostics (WriteFault n) entry lines input out err a untouched ends = inr (record {
  text = a.text;
  lines = lines;
  read = a.read;
  compiled = a.compiled;
  lost = ends;
  untouched = untouched;
})
ends_diagnostics NoMemory entry lines input out err a untouched ends = absurd ends

pub ends_text : (status : Status) (made : Bool) (name text : List ℕ) (roots : SeenRoots) (steps : Counted) (out err : Seen) → IsCheckedTo made name roots steps text
    → EndsText status made out err text → EndsCheck status name roots steps out err
ends_text Done true name text roots steps out err is ends = (text, is, ends.1)
ends_text Done false name text roots steps out err is ends = absurd (false≢true ends.0)
ends_text Diagnosed true name text roots steps out err is ends = absurd (false≢true (sym ends.0))
ends_text Diagnosed false name text roots steps out err is ends = (is.0, text, is.1, ends.1)
ends_text Usage made name text roots steps out err is ends = absurd ends
ends_text InputTooLarge made name text roots steps out err is ends = absurd ends
ends_text TooManyModules made name text roots steps out err is ends = absurd ends
ends_text (ModuleTooLarge told) made name text roots steps out err is ends = absurd ends
ends_text (SourceFault root told) made name text roots steps out err is ends = absurd ends
ends_text ReadFault made name text roots steps out err is ends = absurd ends
ends_text (WriteFault n) true name text roots steps out err is ends = (Made, text, is, ends.0, ends.1)
ends_text (WriteFault n) false name text roots steps out err is ends = (Failed is.0, text, is.1, ends.0, ends.1)
ends_text NoMemory made name text roots steps out err is ends = absurd ends

checked_reply : (name text : List ℕ) (sources : Sources) (roots : SeenRoots) (steps : Counted) (reply : Reply) → IsLoaded (name ∷ []) sources roots
    → TellsReply sources name text steps reply → IsChecked name roots steps reply text
checked_reply name text sources roots steps reply loaded tells =
    record { sources = sources; loaded = loaded; keys = tells.keys; worked = tells.worked; told = tells.told; rose = tells.rose }

-- a reply of loaded sources is that of the module
pub checked_to : (made : Bool) (name text : List ℕ) (sources : Sources) (roots : SeenRoots) (steps : Counted) → IsLoaded (name ∷ []) sources roots
    → Tells made sources name text steps → IsCheckedTo made name roots steps text
checked_to true name text sources roots steps loaded tells = checked_reply name text sources roots steps Made loaded tells
checked_to false name text sources roots steps loaded tells =
    (tells.0, checked_reply name text sources roots steps (Failed tells.0) loaded tells.1)

module _ (names these : List (List ℕ)) (same : names ≡ these) (before now : List RootState) where
  -- what loading promises of the sources, where the names are these
  pub loaded : (result : Result SourceSet LoadRefusal)
      → MatchResult result (λ set. load.Loads names (load.sources_of set) before now) (λ reason. load.Refuses reason names before now)
      → IfOk result (λ set. WellFormed names (load.sources_of set))
      → ((maps : List (List (List ℕ × List ℕ))) → Tell before maps → MatchResult result (λ set. Loaded maps names (load.sources_of set)) (λ reason. load.RefusesTold reason names maps))
      → IfOk result (λ set. IsLoaded these (load.sources_of set) (seen_roots before now))
  loaded (Ok set) fetches formed told =
      subst (λ ns. IsLoaded ns (load.sources_of set) (seen_roots before now)) same (record { loads = fetches; well_formed = formed; told = told })
  loaded (Err reason) fetches formed told = tt

  -- and of the refusals
  pub refused : (result : Result SourceSet LoadRefusal)
      → MatchResult result (λ set. load.Loads names (load.sources_of set) before now) (λ reason. load.Refuses reason names before now)
      → IfErr result (λ reason. load.ShowsFault reason before now)
      → ((maps : List (List (List ℕ × List ℕ))) → Tell before maps → MatchResult result (λ set. Loaded maps names (load.sources_of set)) (λ reason. load.RefusesTold reason names maps))
      → IfErr result (λ reason. reason ≢ NoMemoryLeft → IsRefused these reason (seen_roots before now))
  refused (Ok set) fetches fault told = tt
  refused (Err reason) fetches fault told = λ other.
      subst (λ ns. IsRefused ns reason (seen_roots before now)) same (record { refuses = fetches; fault = fault; told = told })

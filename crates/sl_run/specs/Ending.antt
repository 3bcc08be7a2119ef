-- What the steps of a command say of the status that they end with.
use Rattle.std.specs.Prelude.{◌≡◌, ℕ, ◌+◌, ◌<◌, Bool, true, false, List, IfSome, IsTrue, length}
use Rattle.def_reply.specs.Text.{only, out_text}
use Rattle.def_reply.specs.Worked.{AreWorked}
use Rattle.def_sources.specs.Limits.{most_bytes}
use Rattle.def_sources.specs.Sources.{Sources}
use Rattle.sl_base.specs.declared.diag.Diag.{Diag}
use Rattle.sl_io.specs.declared.read.ReadRefusal.{ReadRefusal}
use Rattle.sl_io.specs.declared.read.ReadRefusal.TheVariants as refusal
use Rattle.sl_key.specs.declared.key.Key.{Key}
use Rattle.sl_key.specs.declared.request.Reply.{Reply}
use Rattle.sl_key.specs.declared.request.Reply.TheVariants.{Made, Failed}
use Rattle.sl_roots.specs.declared.refusal.LoadRefusal.{LoadRefusal}
use Rattle.sl_roots.specs.declared.refusal.LoadRefusal.TheVariants as reason
use Rattle.sl_run.specs.Check.{IsChecked, load_of}
use Rattle.sl_run.specs.Compile.{Compiles}
use Rattle.sl_run.specs.Seen.{Seen, SeenRoots, Counted, HasFault, IsRead, IsWritten, IsWrittenInPart, Reports}
use Rattle.sl_run.specs.declared.compile.Compilation.{Compilation}
use Rattle.sl_run.specs.declared.status.Status.{Status}
use Rattle.sl_run.specs.declared.status.Status.TheVariants.{Done, Diagnosed, Usage, InputTooLarge, TooManyModules, ModuleTooLarge, SourceFault, ReadFault, WriteFault, NoMemory}

-- the input was a text that compiles to this
pub record Answers (entry : List ℕ) (input : Seen) (compilation : Compilation) : Type 0 where
  pub text : List ℕ
  pub read : IsRead input text
  pub compiled : Compiles entry text compilation

-- why the input was not read
abbrev pub Refuses : ReadRefusal → Seen → Type 0
Refuses refusal.Fault input = HasFault input
Refuses refusal.TooLong input = IfSome input.before (λ left. most_bytes < length left)
Refuses refusal.NoMemory input = Unit {0}

-- the status of a refusal to read
abbrev pub status_of : ReadRefusal → Status
status_of refusal.Fault = ReadFault
status_of refusal.TooLong = InputTooLarge
status_of refusal.NoMemory = NoMemory

-- the status of a refusal to load
abbrev pub status_of_load : LoadRefusal → Status
status_of_load (reason.Fault root name) = SourceFault root name
status_of_load (reason.ModuleTooLarge name) = ModuleTooLarge name
status_of_load reason.TooManyModules = TooManyModules
status_of_load reason.NoMemory = NoMemory

-- how the writing of a module's bytes ends
abbrev pub EndsCode : Status → Seen → Seen → List ℕ → Type 0
EndsCode Done out err bytes = IsWritten out bytes
EndsCode Diagnosed out err bytes = ⊥
EndsCode Usage out err bytes = ⊥
EndsCode InputTooLarge out err bytes = ⊥
EndsCode TooManyModules out err bytes = ⊥
EndsCode (ModuleTooLarge name) out err bytes = ⊥
EndsCode (SourceFault root name) out err bytes = ⊥
EndsCode ReadFault out err bytes = ⊥
EndsCode (WriteFault n) out err bytes = IsWrittenInPart out bytes n × Reports (WriteFault n) err
EndsCode NoMemory out err bytes = ⊥

-- how the writing of diagnostics ends
abbrev pub EndsDiagnostics : Status → Seen → List ℕ → Type 0
EndsDiagnostics Done err lines = ⊥
EndsDiagnostics Diagnosed err lines = IsWritten err lines
EndsDiagnostics Usage err lines = ⊥
EndsDiagnostics InputTooLarge err lines = ⊥
EndsDiagnostics TooManyModules err lines = ⊥
EndsDiagnostics (ModuleTooLarge name) err lines = ⊥
EndsDiagnostics (SourceFault root name) err lines = ⊥
EndsDiagnostics ReadFault err lines = ⊥
EndsDiagnostics (WriteFault n) err lines = IsWrittenInPart err lines n
EndsDiagnostics NoMemory err lines = ⊥

-- how the writing of the text of a reply ends; the test tells whether the reply is without
-- diagnostics
abbrev pub EndsText : Status → Bool → Seen → Seen → List ℕ → Type 0
EndsText Done made out err text = IsTrue made × IsWritten out text
EndsText Diagnosed made out err text = (made ≡ false) × IsWritten out text
EndsText Usage made out err text = ⊥
EndsText InputTooLarge made out err text = ⊥
EndsText TooManyModules made out err text = ⊥
EndsText (ModuleTooLarge name) made out err text = ⊥
EndsText (SourceFault root name) made out err text = ⊥
EndsText ReadFault made out err text = ⊥
EndsText (WriteFault n) made out err text = IsWrittenInPart out text n × Reports (WriteFault n) err
EndsText NoMemory made out err text = ⊥

-- some reply that is without diagnostics, or some one that has some
abbrev pub SomeReply : Bool → (Reply → Type 0) → Type 0
SomeReply true Holds = Holds Made
SomeReply false Holds = (diagnostics : List Diag) × Holds (Failed diagnostics)

-- Sources give this reply to one caller's one request for a module, and this is the text that tells
-- it. One step was counted for each key that the request comes to.
pub record TellsReply (sources : Sources) (name text : List ℕ) (steps : Counted) (reply : Reply)
    : Type 0 where
  pub keys : List Key
  pub worked : AreWorked sources (only (load_of name) reply) keys
  pub told : text ≡ out_text (only (load_of name) reply) (length keys)
  pub rose : steps.now ≡ steps.before + length keys

-- the same of a reply without diagnostics, or with some
abbrev pub Tells : Bool → Sources → List ℕ → List ℕ → Counted → Type 0
Tells made sources name text steps = SomeReply made (TellsReply sources name text steps)

-- the module was checked, with a reply without diagnostics, or with some
abbrev pub IsCheckedTo : Bool → List ℕ → SeenRoots → Counted → List ℕ → Type 0
IsCheckedTo made name roots steps text =
    SomeReply made (λ reply. IsChecked name roots steps reply text)

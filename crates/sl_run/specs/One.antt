-- What each status says of `one ENTRY`.
use Rattle.std.specs.Prelude.{◌≡◌, ℕ, ◌<◌, ◌⊎◌, List, length, IfSome}
use Rattle.def_sources.specs.Limits.{most_bytes}
use Rattle.sl_run.specs.declared.compile.Compilation.TheVariants.{Code, Diagnostics}
use Rattle.sl_run.specs.declared.status.Status.{Status}
use Rattle.sl_run.specs.declared.status.Status.TheVariants.{Done, Diagnosed, Usage, InputTooLarge, TooManyModules, ModuleTooLarge, SourceFault, ReadFault, WriteFault, NoMemory}
use Rattle.sl_run.specs.Compile.{Compiles}
use Rattle.sl_run.specs.Seen.{Seen, HasFault, IsWritten, IsWrittenInPart, Reports, IsRead}

-- The whole input is a module with the command's entry point, and its words were written.
pub record WritesCode (entry : List ℕ) (input out : Seen) : Type 0 where
  pub text : List ℕ
  pub bytes : List ℕ
  pub read : IsRead input text
  pub compiled : Compiles entry text (Code bytes)
  pub written : IsWritten out bytes

-- The whole input is no such module, and the diagnostics that say why were written.
pub record WritesDiagnostics (entry : List ℕ) (input err : Seen) : Type 0 where
  pub text : List ℕ
  pub lines : List ℕ
  pub read : IsRead input text
  pub compiled : Compiles entry text (Diagnostics lines)
  pub written : IsWritten err lines

-- as `WritesCode`, but of the words only the first n bytes were written
pub record LosesCode (entry : List ℕ) (input out err : Seen) (n : ℕ) : Type 0 where
  pub text : List ℕ
  pub bytes : List ℕ
  pub read : IsRead input text
  pub compiled : Compiles entry text (Code bytes)
  pub lost : IsWrittenInPart out bytes n
  pub reported : Reports (WriteFault n) err

-- as `WritesDiagnostics`, but of the diagnostics only the first n bytes were written, and no line
-- follows
pub record LosesDiagnostics (entry : List ℕ) (input out err : Seen) (n : ℕ) : Type 0 where
  pub text : List ℕ
  pub lines : List ℕ
  pub read : IsRead input text
  pub compiled : Compiles entry text (Diagnostics lines)
  pub lost : IsWrittenInPart err lines n
  pub untouched : out.now ≡ out.before

-- what each status says of the input, the result and the errors
abbrev pub EndsOne : Status → List ℕ → Seen → Seen → Seen → Type 0
EndsOne Done entry input out err = WritesCode entry input out
EndsOne Diagnosed entry input out err = WritesDiagnostics entry input err
EndsOne Usage entry input out err = ⊥
EndsOne InputTooLarge entry input out err =
    IfSome input.before (λ left. most_bytes < length left) × Reports InputTooLarge err
EndsOne TooManyModules entry input out err = ⊥
EndsOne (ModuleTooLarge name) entry input out err = ⊥
EndsOne (SourceFault root name) entry input out err = ⊥
EndsOne ReadFault entry input out err = HasFault input × Reports ReadFault err
EndsOne (WriteFault n) entry input out err =
    LosesCode entry input out err n ⊎ LosesDiagnostics entry input out err n
EndsOne NoMemory entry input out err = Reports NoMemory err

-- What `run_alone` promises, by the status that it answers.
use Rattle.std.specs.Prelude.{◌≡◌, Bool, true, false, Option, Some, None}
use Rattle.sl_run.specs.Command.{Command, One, Check}
use Rattle.sl_run.specs.Check.{EndsCheck}
use Rattle.sl_run.specs.One.{EndsOne}
use Rattle.sl_run.specs.Seen.{Seen, SeenRoots, Counted, Reports}
use Rattle.sl_run.specs.declared.status.Status.{Status}
use Rattle.sl_run.specs.declared.status.Status.TheVariants.{Done, Diagnosed, Usage, InputTooLarge, TooManyModules, ModuleTooLarge, SourceFault, ReadFault, WriteFault, NoMemory}

-- what each status says of the words, the roots, the steps, the input, the result and the errors
abbrev pub Ends : Status → Option Command → SeenRoots → Counted → Seen → Seen → Seen → Type 0
Ends status None roots steps input out err = (status ≡ Usage) × Reports Usage err
Ends status (Some (One entry)) roots steps input out err = EndsOne status entry input out err
Ends status (Some (Check name)) roots steps input out err =
    EndsCheck status name roots steps out err

-- the command reads the input
abbrev pub reads_input : Option Command → Bool
reads_input None = false
reads_input (Some (One entry)) = true
reads_input (Some (Check name)) = false

-- the command asks the roots
abbrev pub asks_roots : Option Command → Bool
asks_roots None = false
asks_roots (Some (One entry)) = false
asks_roots (Some (Check name)) = true

-- the diagnostics of the command are written to the result's sink, and not to that of errors
abbrev pub tells_in_out : Option Command → Bool
tells_in_out None = false
tells_in_out (Some (One entry)) = false
tells_in_out (Some (Check name)) = true

-- whether nothing was written to the result's sink at this status; the test tells whether
-- diagnostics go there
abbrev pub leaves_out : Bool → Status → Bool
leaves_out told Done = false
leaves_out true Diagnosed = false
leaves_out false Diagnosed = true
leaves_out told Usage = true
leaves_out told InputTooLarge = true
leaves_out told TooManyModules = true
leaves_out told (ModuleTooLarge name) = true
leaves_out told (SourceFault root name) = true
leaves_out told ReadFault = true
leaves_out told (WriteFault n) = false
leaves_out told NoMemory = true

-- whether nothing was written to the sink of errors at this status
abbrev pub leaves_err : Bool → Status → Bool
leaves_err told Done = true
leaves_err told Diagnosed = told
leaves_err told Usage = false
leaves_err told InputTooLarge = false
leaves_err told TooManyModules = false
leaves_err told (ModuleTooLarge name) = false
leaves_err told (SourceFault root name) = false
leaves_err told ReadFault = false
leaves_err told (WriteFault n) = false
leaves_err told NoMemory = false

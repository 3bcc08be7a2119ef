-- The numbers and lines of statuses.
use Rattle.std.specs.Prelude.{ℕ, List, [], ◌++◌, codes}
use Rattle.std.specs.Fmt.{decimal}
use Rattle.def_reply.specs.Text.{line}
use Rattle.sl_run.specs.declared.status.Status.{Status}
use Rattle.sl_run.specs.declared.status.Status.TheVariants.{Done, Diagnosed, Usage, InputTooLarge, TooManyModules, ModuleTooLarge, SourceFault, ReadFault, WriteFault, NoMemory}

-- the number that the program ends with
abbrev pub number_of : Status → ℕ
number_of Done = 0
number_of Diagnosed = 1
number_of Usage = 2
number_of InputTooLarge = 2
number_of TooManyModules = 2
number_of (ModuleTooLarge name) = 2
number_of (SourceFault root name) = 3
number_of ReadFault = 4
number_of (WriteFault written) = 5
number_of NoMemory = 6

-- the greatest number of bytes that there is room for in a line
abbrev pub longest_line : ℕ
longest_line = 512

-- the line that tells the status; nothing where the reply tells it
abbrev pub line_of : Status → List ℕ
line_of Done = []
line_of Diagnosed = []
line_of Usage = line (codes "usage: slangrun one ENTRY | check MODULE")
line_of InputTooLarge = line (codes "slangrun: limit: input is too large")
line_of TooManyModules = line (codes "slangrun: limit: more than 256 modules")
line_of (ModuleTooLarge name) =
    line (codes "slangrun: limit: module " ++ (name ++ codes " is too large"))
line_of (SourceFault root name) =
    line (codes "slangrun: root " ++ (decimal root
    ++ (codes " failed on " ++ (name ++ codes ".slang"))))
line_of ReadFault = line (codes "slangrun: read failed")
line_of (WriteFault written) = line (codes "slangrun: write failed")
line_of NoMemory = line (codes "slangrun: out of memory")

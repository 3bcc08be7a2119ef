-- Where an expression is too long.
use Rattle.std.specs.Prelude.{Option}
use Rattle.std.specs.Option.{option_map}
use Rattle.def_reading.specs.Cursor.{Told}
use Rattle.sl_cursor.specs.Seen.{told_in}
use Rattle.sl_machine.specs.declared.machine.Around.{Around}

-- what is told where an expression is too long, if it is
abbrev pub long_in : Around → Option Told
long_in around = option_map (told_in around.source.bytes.now) around.long

-- Where the machine has come, beside the one on lists.
use Rattle.std.specs.Prelude.{◌≡◌, ℕ, List, Option, None, Result, Ok, Err}
use Rattle.std.specs.Option.{option_map}
use Rattle.def_tree.specs.ExprTree as trees
use Rattle.def_reading.specs.Machine as machine
use Rattle.def_reading.specs.Cursor as places
use Rattle.def_reading.specs.Cursor.{before, earlier}
use Rattle.def_reading.specs.Try as lists
use Rattle.sl_machine.specs.Framed.{frames_in}
use Rattle.sl_cursor.specs.Seen.{place_in, reach_in}
use Rattle.sl_machine.specs.Steps.{mode_in}
use Rattle.sl_tree.specs.View.{expr_in}
use Rattle.sl_tree.specs.declared.expressions.ExprTree.{ExprTree}
use Rattle.sl_machine.specs.declared.frames.Frame.{Frame}
use Rattle.sl_machine.specs.declared.machine.Mode.{Mode}
use Rattle.sl_cursor.specs.declared.cursor.Cursor.{Cursor}
use Rattle.sl_cursor.specs.declared.source.Here.{Here}
use Rattle.sl_cursor.specs.declared.source.Source.{Source}
use Rattle.sl_cursor.specs.declared.source.Unread.{Unread}
use Rattle.sl_cursor.specs.declared.source.Unread.TheVariants as unread

-- the machine on lists, where it has come here
abbrev pub config_in : List ℕ → List Frame → Mode → Cursor → machine.Config
config_in source frames mode place =
    record {
      frames = frames_in source frames;
      mode = mode_in source mode;
      place = place_in source place;
    }

-- no limit ends before a place, that of an expression's length among them
abbrev pub IsWithinLimits : Option places.Told → places.Cursor → Type 0
IsWithinLimits long (places.At at limit tokens) = earlier limit (before at long) ≡ None

-- what is read at the end of an expression, as it is on lists, behind this place
abbrev pub IsEnd : Source → Cursor → lists.Try trees.ExprTree → Result (ExprTree × Here) Unread
    → Type 0
IsEnd source place given (Ok found) =
    (given ≡ lists.Reads (expr_in source.bytes.now found.0)
    (place_in source.bytes.now found.1.place)
    (option_map (reach_in source.bytes.now) found.1.reach))
    × (found.1.place.at ≡ place.at) × (found.1.place.rest.now ≡ place.rest.now)
IsEnd source place given (Err (unread.Refused reach)) =
    given ≡ lists.Stops (option_map (reach_in source.bytes.now) reach)
IsEnd source place given (Err (unread.Deep told)) = ⊥
IsEnd source place given (Err unread.NoMemory) = ⊥

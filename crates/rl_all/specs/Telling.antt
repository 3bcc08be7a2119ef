-- Which diagnostics can be told, and where cycles are told.
use Rattle.std.specs.Prelude.{⊤, IsTrue, length}
use Rattle.std.specs.List.{All}
use Rattle.std.specs.Option.{option_and_then, option_map_or}
use Rattle.def_check.specs.Body.{declarations_in}
use Rattle.def_slang.specs.Diagnostic.{takes}
use Rattle.sl_base.specs.declared.diag.Diag.{Diag}
use Rattle.sl_base.specs.declared.place.Place.{Place}
use Rattle.sl_key.specs.Fault.{first_place, place_of}
use Rattle.sl_key.specs.Names.{declared_at, name_of}
use Rattle.sl_key.specs.Order.{parts_of}
use Rattle.sl_key.specs.declared.answer.Answer.{Answer}
use Rattle.sl_key.specs.declared.key.Key.{Key}
use Rattle.sl_key.specs.declared.request.Reply.{Reply}
use Rattle.sl_key.specs.declared.request.Reply.TheVariants.{Made, Failed}

-- the code of a diagnostic has a text for its number of arguments
abbrev pub HasText : Diag → Type 0
HasText told = IsTrue (takes told.code (length told.args))

-- each diagnostic of a reply has a text
abbrev pub CanBeTold : Reply → Type 0
CanBeTold Made = ⊤
CanBeTold (Failed told) = All HasText told

-- the place of the name of a key's declaration, where this is the syntax of its module
abbrev pub place_in : Answer → Key → Place
place_in syntax key =
    option_map_or place_of (option_and_then name_of
    (declared_at (declarations_in syntax) (parts_of key))) first_place

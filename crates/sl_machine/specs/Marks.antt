-- What marks behind whole expressions lead to.
use Rattle.std.specs.Prelude.{List}
use Rattle.def_token.specs.Lexical.{Token}
use Rattle.def_reading.specs.Machine.{Held, Step, ends_by, colon_by, comma_by, closing_by, index_by}
use Rattle.def_reading.specs.Cursor.{Cursor}
use Rattle.sl_machine.specs.declared.words.Behind.{Behind}
use Rattle.sl_machine.specs.declared.words.Behind.TheVariants as behind

-- what a mark leads to behind a whole expression
abbrev pub mark_on : Behind → Held → List Token → Cursor → Step
mark_on behind.Call held tokens place = ends_by held tokens place
mark_on behind.Index held tokens place = ends_by held tokens place
mark_on behind.Dot held tokens place = ends_by held tokens place
mark_on behind.Colons held tokens place = ends_by held tokens place
mark_on behind.Question held tokens place = ends_by held tokens place
mark_on behind.Colon held tokens place = colon_by held tokens place
mark_on behind.Comma held tokens place = comma_by held tokens place
mark_on behind.Closing held tokens place = closing_by held tokens place
mark_on behind.IndexClosing held tokens place = index_by held tokens place

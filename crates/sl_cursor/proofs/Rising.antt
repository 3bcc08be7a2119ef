-- Readers that go on from a place in tokens, and never back.
use Rattle.std.proofs.Common.{ℕ, subst}
use Rattle.std.specs.Prelude.{Option, Some, None, Result, Ok, Err}
use Rattle.std.specs.Option.{option_map}
use Rattle.def_reading.specs.Cursor as places
use Rattle.def_reading.specs.Try.{Reader}
use Rattle.law_exprs.proofs.TryComes.{Noted}
use Rattle.law_exprs.proofs.TryFronts.{Rises, Good}
use Rattle.sl_token.specs.View.{tokens_in}
use Rattle.sl_cursor.specs.Following.{IsToldBy, IsAt, Follows}
use Rattle.sl_cursor.specs.Seen.{reach_in, told_in}
use Rattle.sl_cursor.specs.Tries.{Tries}
use Rattle.sl_cursor.specs.declared.source.Here.{Here}
use Rattle.sl_cursor.specs.declared.source.Source.{Source}
use Rattle.sl_cursor.specs.declared.source.Unread.{Unread}
use Rattle.sl_cursor.specs.declared.source.Unread.TheVariants as unread

told_noted : (at : ℕ) (limit : Option places.Told) → IsToldBy at limit → Noted at limit
told_noted at None h = tt
told_noted at (Some told) h = h

noted_told : (at : ℕ) (limit : Option places.Told) → Noted at limit → IsToldBy at limit
noted_told at None h = tt
noted_told at (Some told) h = h

-- a tree is read on lists by a reader that goes on
pub rises_read : {A B : Type 0} (source : Source) (view : A → B) (reader : Reader B) → Good reader → (from : Here) → IsAt source from.place → (result : Result (A × Here) Unread)
    → Tries source view reader from result → Follows source view reader from result
rises_read source view reader g from at (Ok found) t =
    let bytes = source.bytes.now in
    let limit = option_map (told_in bytes) from.place.limit in
    let rises = subst (Rises from.place.at limit) t.is
    (g.rises from.place.at limit (tokens_in bytes from.place.rest.now) (option_map (reach_in bytes) from.reach) (told_noted from.place.at limit at.told)) in
    record {
      tried = t;
      on = rises.0;
      behind = record { stands = t.stands; told = noted_told found.1.place.at (option_map (told_in bytes) found.1.place.limit) rises.2 };
    }
rises_read source view reader g from at (Err (unread.Refused reach)) t = t
rises_read source view reader g from at (Err (unread.Deep told)) t = t
rises_read source view reader g from at (Err unread.NoMemory) t = tt

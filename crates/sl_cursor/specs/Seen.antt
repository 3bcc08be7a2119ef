-- What the types of this crate stand for, over a source.
use Rattle.std.specs.Prelude.{◌≡◌, ℕ, Bool, List, drop, Some, None, if◌then◌else◌}
use Rattle.std.specs.Option.{option_map}
use Rattle.def_tree.specs.Limits.{Deep, Entry, plain}
use Rattle.sl_token.specs.View.{token_in, tokens_in}
use Rattle.def_reading.specs.Cursor as lists
use Rattle.def_reading.specs.Cursor.{advance}
use Rattle.sl_cursor.specs.declared.cursor.Cursor.{Cursor}
use Rattle.sl_cursor.specs.declared.cursor.FarthestFailure.{FarthestFailure}
use Rattle.sl_cursor.specs.declared.cursor.Told.{Told}

-- what is told
abbrev pub told_in : List ℕ → Told → lists.Told
told_in source told = record { at = told.at; token = token_in source told.token; code = told.code }

-- a place
abbrev pub place_in : List ℕ → Cursor → lists.Cursor
place_in source place =
    lists.At place.at (option_map (told_in source) place.limit) (tokens_in source place.rest.now)

-- how far tokens are read
abbrev pub reach_in : List ℕ → FarthestFailure → lists.FarthestFailure
reach_in source reach = record { many = reach.many; told = told_in source reach.told }

-- the place is the one behind the next token of another
pub record IsAfter (from behind : Cursor) : Type 0 where
  pub place : (source : List ℕ) → place_in source behind ≡ advance plain (place_in source from)
  pub limit : behind.limit ≡ from.limit
  pub rest : behind.rest.now ≡ drop 1 from.rest.now

-- what ends at a token that opens too much, or not
abbrev pub deep_by : Bool → Entry
deep_by deep = if deep then Some Deep else None

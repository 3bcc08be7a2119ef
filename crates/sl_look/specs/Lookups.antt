-- What looks for type arguments give, where no trees are made of types that nest too deep.
use Rattle.std.specs.Prelude.{◌≡◌, ℕ, List, None}
use Rattle.sl_cursor.specs.Seen.{place_in}
use Rattle.def_reading.specs.TypeAhead as ahead
use Rattle.sl_cursor.specs.declared.cursor.Cursor.{Cursor}
use Rattle.sl_look.specs.declared.types.LookAhead.{LookAhead}
use Rattle.sl_look.specs.declared.types.LookAhead.TheVariants as look

-- something is found behind which this place stands, and it is what is found here, where no limit
-- ends on the way
pub record IsFound {A B : Type 0} (source : List ℕ) (view : A → B) (on_lists : ahead.LookAhead B)
    (found : A) (place : Cursor) : Type 0 where
  pub tree : B
  pub is : on_lists ≡ ahead.Found tree (place_in source place)
  pub same : place.limit ≡ None → tree ≡ view found

-- a look ends where it does on lists, and finds the same, where no limit ends on the way
abbrev pub IsLooked : {A B : Type 0} → List ℕ → (A → B) → ahead.LookAhead B → LookAhead A → Type 0
IsLooked source view on_lists (look.Found found place) = IsFound source view on_lists found place
IsLooked source view on_lists (look.Missing place) =
    on_lists ≡ ahead.Missing (place_in source place)

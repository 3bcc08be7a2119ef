-- What is read, as the readers on lists have it.
use Rattle.std.specs.Prelude.{◌≡◌, ◌≤◌, Option, None, drop, length, Result, Ok, Err}
use Rattle.std.specs.Option.{option_map}
use Rattle.def_tree.specs.ExprTree as trees
use Rattle.def_tree.specs.Statements.{is_call}
use Rattle.def_reading.specs.Cursor as places
use Rattle.def_reading.specs.Try as lists
use Rattle.sl_tree.specs.View.{expr_in}
use Rattle.sl_tree.specs.declared.expressions.ExprTree.{ExprTree}
use Rattle.sl_cursor.specs.Seen.{place_in, reach_in}
use Rattle.sl_cursor.specs.declared.cursor.Cursor.{Cursor}
use Rattle.sl_cursor.specs.declared.source.Here.{Here}
use Rattle.sl_cursor.specs.declared.source.Source.{Source}
use Rattle.sl_cursor.specs.declared.source.Unread.{Unread}
use Rattle.sl_cursor.specs.declared.source.Unread.TheVariants as unread

-- the place is one among the source's tokens
pub record IsIn (source : Source) (place : Cursor) : Type 0 where
  pub rest : place.rest.now ≡ drop place.at source.tokens.now
  pub within : place.at ≤ length source.tokens.now

-- what a reader on lists comes to, here
abbrev pub on_lists : {B : Type 0} → Source → lists.Reader B → Here → lists.Try B
on_lists source reader here =
    reader (option_map (reach_in source.bytes.now) here.reach)
    (place_in source.bytes.now here.place)

-- A tree is read where the reader on lists reads one, and it is the same where no limit ends on the
-- way.
pub record IsTried {A B : Type 0} (source : Source) (view : A → B) (reader : lists.Reader B)
    (from : Here) (read : A) (to : Here) : Type 0 where
  pub tree : B
  pub is : on_lists source reader from
      ≡ lists.Reads tree (place_in source.bytes.now to.place)
      (option_map (reach_in source.bytes.now) to.reach)
  pub same : to.place.limit ≡ None → tree ≡ view read
  pub rises : to.place.limit ≡ None → from.place.limit ≡ None
  pub stands : IsIn source to.place

-- what is read, if memory did not run out; types and expressions are read to their ends, whatever
-- their limits
abbrev pub Tries : {A B : Type 0} → Source → (A → B) → lists.Reader B → Here
    → Result (A × Here) Unread → Type 0
Tries source view reader from (Ok found) = IsTried source view reader from found.0 found.1
Tries source view reader from (Err (unread.Refused reach)) =
    on_lists source reader from ≡ lists.Stops (option_map (reach_in source.bytes.now) reach)
Tries source view reader from (Err (unread.Deep told)) = ⊥
Tries source view reader from (Err unread.NoMemory) = Unit {0}

-- an expression that is read is a call where it is one on lists
abbrev pub IsCallToo : Source → lists.Reader trees.ExprTree → Here → Result (ExprTree × Here) Unread
    → Type 0
IsCallToo source reader from (Ok found) =
    (tree : trees.ExprTree) (place : places.Cursor) (reach : Option places.FarthestFailure)
    → on_lists source reader from ≡ lists.Reads tree place reach
    → is_call tree ≡ is_call (expr_in source.bytes.now found.0)
IsCallToo source reader from (Err stop) = Unit {0}

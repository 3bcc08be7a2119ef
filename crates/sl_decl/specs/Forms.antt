-- What the readers of this crate promise, as the readers of forms on lists have it.
use Rattle.std.specs.Prelude.{◌≡◌, ℕ, ◌≤◌, false, List, Option, Some, None, Result, Ok, Err}
use Rattle.std.specs.Option.{option_map}
use Rattle.def_token.specs.Lexical as lexical
use Rattle.def_tree.specs.Limits.{plain}
use Rattle.def_tree.specs.Symbol.{is_sign}
use Rattle.def_reading.specs.Try as lists
use Rattle.def_reading.specs.Try.{choice}
use Rattle.def_decl_reading.specs.Form.{Form, reads}
use Rattle.sl_token.specs.View.{tokens_in}
use Rattle.sl_token.specs.declared.token.Token.{Token}
use Rattle.sl_tree.specs.declared.declarations.BufferKind.{BufferKind}
use Rattle.sl_tree.specs.declared.declarations.BufferKind.TheVariants as buffer
use Rattle.sl_cursor.specs.Following.{IsAt, Follows, passes, IsPassed}
use Rattle.sl_cursor.specs.Seen.{place_in, reach_in}
use Rattle.sl_stmt.specs.Settling.{Settles}
use Rattle.sl_cursor.specs.Signs.{is_text}
use Rattle.sl_cursor.specs.Tries.{on_lists}
use Rattle.sl_cursor.specs.declared.nesting.Nesting.{Nesting}
use Rattle.sl_cursor.specs.declared.source.Here.{Here}
use Rattle.sl_cursor.specs.declared.source.Source.{Source}
use Rattle.sl_cursor.specs.declared.source.Unread.{Unread}
use Rattle.sl_cursor.specs.declared.source.Unread.TheVariants as unread

-- what a form without statements comes to, whose trees a source gives a meaning
abbrev pub FollowsForm : {A B : Type 0} → Source → (List ℕ → A → B) → Form B → Here
    → Result (A × Here) Unread → Type 0
FollowsForm source view form from result =
    Follows source (view source.bytes.now) (reads form) from result

-- what a form with statements comes to
abbrev pub SettlesForm : {A B : Type 0} → Source → (List ℕ → A → B) → Form B → Here
    → Result (A × Here) Unread → Type 0
SettlesForm source view form from result =
    Settles source (view source.bytes.now) (reads form) from result

-- this is what lists have of what is read before a place
abbrev pub IsGiven : {B : Type 0} → Here → B → B → Type 0
IsGiven here read tree = here.place.limit ≡ None → tree ≡ read

-- what is read consists of tokens alone, and is what lists have, whatever limits end on the way
pub record IsTaken {A B : Type 0} (source : Source) (view : A → B) (reader : lists.Reader B)
    (from : Here) (read : A)
    (to : Here) : Type 0 where
  pub is : on_lists source reader from
      ≡ lists.Reads (view read) (place_in source.bytes.now to.place)
      (option_map (reach_in source.bytes.now) to.reach)
  pub rises : to.place.limit ≡ None → from.place.limit ≡ None
  pub on : from.place.at ≤ to.place.at
  pub behind : IsAt source to.place

-- what a form of tokens alone comes to
abbrev pub TakesForm : {A B : Type 0} → Source → (List ℕ → A → B) → Form B → Here
    → Result (A × Here) Unread → Type 0
TakesForm source view form from (Ok found) =
    IsTaken source (view source.bytes.now) (reads form) from found.0 found.1
TakesForm source view form from (Err (unread.Refused reach)) =
    on_lists source (reads form) from ≡ lists.Stops (option_map (reach_in source.bytes.now) reach)
TakesForm source view form from (Err (unread.Deep told)) = ⊥
TakesForm source view form from (Err unread.NoMemory) = Unit {0}

-- a mark or a keyword, if it is written
abbrev pub maybe_text : List ℕ → lists.Reader (Option lexical.Token)
maybe_text text =
    choice (is_text text) plain (λ token reach place. lists.Reads (Some token) place reach)
    (λ reach place. lists.Reads None place reach)

-- the word of a kind of buffers
abbrev pub IsKind : Source → Here → BufferKind → Token → Here → Type 0
IsKind source from buffer.ReadOnly token to =
    IsPassed source (is_sign "StructuredBuffer") plain from token to
IsKind source from buffer.ReadWrite token to =
    (passes (is_sign "StructuredBuffer") (tokens_in source.bytes.now from.place.rest.now) ≡ false)
    × IsPassed source (is_sign "RWStructuredBuffer") plain from token to

-- a kind of buffers with its word, if one is written
abbrev pub IsKinds : Source → Here → Option (BufferKind × Token × Here) → Type 0
IsKinds source from (Some found) = IsKind source from found.0 found.1 found.2
IsKinds source from None =
    (passes (is_sign "StructuredBuffer") (tokens_in source.bytes.now from.place.rest.now) ≡ false)
    × (passes (is_sign "RWStructuredBuffer") (tokens_in source.bytes.now from.place.rest.now)
    ≡ false)

-- so few forms are open
pub record AreFew (many : ℕ) (around : Nesting) : Type 0 where
  pub brackets : around.brackets ≤ many
  pub blocks : around.blocks ≤ many
  pub statements : around.statements ≤ many

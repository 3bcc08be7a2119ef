-- What looks give, as the functions on lists have it.
use Rattle.std.specs.Prelude.{◌≡◌, ℕ, suc, ◌<◌, ◌≤◌, List, [], ◌∷◌, length, map, Option, Some, Result, Ok, Err}
use Rattle.def_token.specs.Lexical as lexical
use Rattle.def_tree.specs.Limits.{opens}
use Rattle.def_tree.specs.TypeTree as trees
use Rattle.sl_token.specs.View.{token_in}
use Rattle.sl_token.specs.declared.token.Token.{Token}
use Rattle.def_reading.specs.Cursor as lists
use Rattle.def_reading.specs.Cursor.{Told, advance}
use Rattle.sl_cursor.specs.Seen.{told_in, place_in}
use Rattle.def_reading.specs.TypeAhead as ahead
use Rattle.def_reading.specs.TypeAhead.{found_then, found_as, path_from, list_behind, list_ahead, args_at}
use Rattle.sl_cursor.specs.declared.cursor.Cursor.{Cursor}
use Rattle.sl_look.specs.declared.stop.Stop.{Stop}
use Rattle.sl_look.specs.declared.stop.Stop.TheVariants as stop
use Rattle.sl_look.specs.declared.types.LookAhead.{LookAhead}
use Rattle.sl_look.specs.declared.types.LookAhead.TheVariants as look
use Rattle.sl_look.specs.declared.types.Next.{Next}
use Rattle.sl_look.specs.declared.types.Next.TheVariants as next
use Rattle.sl_look.specs.declared.types.Mark.{Mark}
use Rattle.sl_look.specs.declared.types.Mark.TheVariants as mark

-- a look, as the functions on lists have it
abbrev pub look_in : {A B : Type 0} → List ℕ → (A → B) → LookAhead A → ahead.LookAhead B
look_in source view (look.Found found place) = ahead.Found (view found) (place_in source place)
look_in source view (look.Missing place) = ahead.Missing (place_in source place)

-- the place where a look ends
abbrev pub place_of : {A : Type 0} → LookAhead A → Cursor
place_of (look.Found found place) = place
place_of (look.Missing place) = place

-- the first limit up to a place, and up to where a look ends
abbrev pub limit_at : lists.Cursor → Option Told
limit_at (lists.At at limit tokens) = limit

-- the first limit up to where a look ends
abbrev pub limit_of : {A : Type 0} → ahead.LookAhead A → Option Told
limit_of (ahead.Found found place) = limit_at place
limit_of (ahead.Missing place) = limit_at place

-- a look that begins at a place is what the function on lists gives in enough turns, and no limit
-- ends on its way
pub record IsLook {A B : Type 0} (source : List ℕ) (view : A → B) (on_lists : ℕ → ahead.LookAhead B)
    (least : ℕ) (from : Cursor) (looked : LookAhead A) : Type 0 where
  pub is : (turns : ℕ) → least < turns → on_lists turns ≡ look_in source view looked
  pub free : (place_of looked).limit ≡ from.limit
  pub fewer : length (place_of looked).rest.now ≤ length from.rest.now

-- a reader gave what the function on lists gives, or stopped at the first limit on the way, if
-- memory did not run out
abbrev pub Reads : {A B : Type 0} → List ℕ → (A → B) → (ℕ → ahead.LookAhead B) → ℕ → Cursor
    → Result (LookAhead A) Stop → Type 0
Reads source view on_lists least from (Ok looked) = IsLook source view on_lists least from looked
Reads source view on_lists least from (Err (stop.Deep told)) =
    (turns : ℕ) → least < turns → limit_of (on_lists turns) ≡ Some (told_in source told)
Reads source view on_lists least from (Err stop.NoMemory) = Unit {0}

-- the tokens at a place, with the first of them
pub record BeginsWith (first : Token) (place : Cursor) : Type 0 where
  pub behind : List Token
  pub are : place.rest.now ≡ first ∷ behind

-- the place behind the first token of a type
pub record Opens (source : List ℕ) (types : ℕ) (from behind : Cursor) : Type 0 where
  pub place : place_in source behind ≡ advance (opens (suc types)) (place_in source from)
  pub free : behind.limit ≡ from.limit
  pub fewer : length behind.rest.now < length from.rest.now

-- a type opens inside so many open types, or it is one too many
abbrev pub IsOpened : List ℕ → ℕ → Cursor → Result Cursor Stop → Type 0
IsOpened source types from (Ok behind) = Opens source types from behind
IsOpened source types from (Err (stop.Deep told)) =
    limit_at (advance (opens (suc types)) (place_in source from)) ≡ Some (told_in source told)
IsOpened source types from (Err stop.NoMemory) = ⊥

-- a type that a name begins, by the place behind it, with its own among so many open types
abbrev pub type_named : ℕ → ℕ → lexical.Token → lists.Cursor → ahead.LookAhead trees.TypeTree
type_named turns types first place =
    found_then (λ args after. found_as (trees.Named first args) (path_from after))
    (args_at (list_ahead turns types) place)

-- the names behind dots, if memory did not run out
abbrev pub IsPath : List ℕ → Cursor → Result (LookAhead (List Token)) Stop → Type 0
IsPath source from (Ok looked) =
    IsLook source (map (token_in source)) (λ turns. path_from (place_in source from)) 0 from looked
IsPath source from (Err (stop.Deep told)) = ⊥
IsPath source from (Err stop.NoMemory) = Unit {0}

-- a name behind a dot, and fewer tokens behind it
pub record IsName (source : List ℕ) (from : Cursor) (name : Token) (behind : Cursor) : Type 0 where
  pub path : path_from (place_in source from)
      ≡ found_as (λ path. token_in source name ∷ path) (path_from (place_in source behind))
  pub free : behind.limit ≡ from.limit
  pub fewer : length behind.rest.now < length from.rest.now

-- a dot without a name
pub record IsNoName (source : List ℕ) (from behind : Cursor) : Type 0 where
  pub path : path_from (place_in source from) ≡ ahead.Missing (place_in source behind)
  pub free : behind.limit ≡ from.limit
  pub fewer : length behind.rest.now < length from.rest.now

-- what stands behind a name
abbrev pub IsNext : List ℕ → Cursor → Next → Type 0
IsNext source from next.Nothing =
    path_from (place_in source from) ≡ ahead.Found [] (place_in source from)
IsNext source from (next.Name name behind) = IsName source from name behind
IsNext source from (next.Unexpected behind) = IsNoName source from behind

-- how a list goes on, whatever reads the rest of it
abbrev pub Onward : Type 0
Onward = lists.Cursor → ahead.LookAhead trees.TypeTrees

-- a comma, and fewer tokens behind it
pub record IsComma (source : List ℕ) (from behind : Cursor) : Type 0 where
  pub list : (more : Onward) (type : trees.TypeTree)
      → list_behind more type (place_in source from)
      ≡ found_as (trees.MoreTypes type) (more (place_in source behind))
  pub free : behind.limit ≡ from.limit
  pub fewer : length behind.rest.now < length from.rest.now

-- the mark that closes a list, and fewer tokens behind it
pub record Closes (source : List ℕ) (from behind : Cursor) : Type 0 where
  pub list : (more : Onward) (type : trees.TypeTree)
      → list_behind more type (place_in source from)
      ≡ ahead.Found (trees.MoreTypes type trees.NoTypes) (place_in source behind)
  pub free : behind.limit ≡ from.limit
  pub fewer : length behind.rest.now < length from.rest.now

-- what stands behind a type in a list
abbrev pub IsMark : List ℕ → Cursor → Mark → Type 0
IsMark source from (mark.Comma behind) = IsComma source from behind
IsMark source from (mark.Closing behind) = Closes source from behind
IsMark source from mark.Neither =
    (more : Onward) (type : trees.TypeTree)
    → list_behind more type (place_in source from) ≡ ahead.Missing (place_in source from)

-- What readers promise that stand one behind another.
use Rattle.std.specs.Prelude.{◌≡◌, ℕ, suc, ◌≤◌, Bool, false, true, List, [], ◌∷◌, replicate, Option, Some, None, Result, Ok, Err}
use Rattle.std.specs.Option.{option_map}
use Rattle.def_token.specs.Lexical as lexical
use Rattle.def_tree.specs.Limits.{Entry, plain}
use Rattle.def_tree.specs.Symbol.{Symbol, symbol}
use Rattle.def_reading.specs.Cursor as places
use Rattle.def_reading.specs.Cursor.{advance, passed, noted, further, reach_at}
use Rattle.def_reading.specs.Try as lists
use Rattle.sl_token.specs.View.{token_in, tokens_in}
use Rattle.sl_token.specs.declared.token.Token.{Token}
use Rattle.sl_cursor.specs.Seen.{deep_by, place_in, reach_in, told_in}
use Rattle.sl_cursor.specs.Tries.{IsIn, IsTried, on_lists}
use Rattle.sl_cursor.specs.declared.cursor.Cursor.{Cursor}
use Rattle.sl_cursor.specs.declared.cursor.FarthestFailure.{FarthestFailure}
use Rattle.sl_cursor.specs.declared.source.Here.{Here}
use Rattle.sl_cursor.specs.declared.source.Source.{Source}
use Rattle.sl_cursor.specs.declared.source.Unread.{Unread}
use Rattle.sl_cursor.specs.declared.source.Unread.TheVariants as unread

-- what is told stands at no later token than this one
abbrev pub IsToldBy : ℕ → Option places.Told → Type 0
IsToldBy at None = Unit {0}
IsToldBy at (Some told) = told.at ≤ at

-- the place is one among the source's tokens, and its first limit stands no later
pub record IsAt (source : Source) (place : Cursor) : Type 0 where
  pub stands : IsIn source place
  pub told : IsToldBy place.at (option_map (told_in source.bytes.now) place.limit)

-- a tree is read, and a place stands behind it
pub record IsRead {A B : Type 0} (source : Source) (view : A → B) (reader : lists.Reader B)
    (from : Here) (read : A)
    (to : Here) : Type 0 where
  pub tried : IsTried source view reader from read to
  pub on : from.place.at ≤ to.place.at
  pub behind : IsAt source to.place

-- what a form without statements comes to, if memory did not run out
abbrev pub Follows : {A B : Type 0} → Source → (A → B) → lists.Reader B → Here
    → Result (A × Here) Unread → Type 0
Follows source view reader from (Ok found) = IsRead source view reader from found.0 found.1
Follows source view reader from (Err (unread.Refused reach)) =
    on_lists source reader from ≡ lists.Stops (option_map (reach_in source.bytes.now) reach)
Follows source view reader from (Err (unread.Deep told)) = ⊥
Follows source view reader from (Err unread.NoMemory) = Unit {0}

-- tokens begin with one that passes a test
abbrev pub passes : (Symbol → Bool) → List lexical.Token → Bool
passes test [] = false
passes test (token ∷ tokens) = test (symbol token)

-- the next token, which passes a test, and the place behind it, where this ends at the token
pub record IsPassed (source : Source) (test : Symbol → Bool) (entry : Entry) (from : Here)
    (token : Token) (to : Here)
    : Type 0 where
  pub more : List lexical.Token
  pub are : tokens_in source.bytes.now from.place.rest.now ≡ token_in source.bytes.now token ∷ more
  pub fits : test (symbol (token_in source.bytes.now token)) ≡ true
  pub place : place_in source.bytes.now to.place
      ≡ advance entry (place_in source.bytes.now from.place)
  pub rises : to.place.limit ≡ None → from.place.limit ≡ None
  pub reach : to.reach ≡ from.reach
  pub on : to.place.at ≡ suc from.place.at
  pub behind : IsAt source to.place

-- the next token, if it passes a test
abbrev pub MayPass : Source → (Symbol → Bool) → Here → Option (Token × Here) → Type 0
MayPass source test from None = passes test (tokens_in source.bytes.now from.place.rest.now) ≡ false
MayPass source test from (Some found) = IsPassed source test plain from found.0 found.1

-- the next token, if it passes a test, where this ends at the token
abbrev pub MayOpen : Source → (Symbol → Bool) → Entry → Here → Option (Token × Here) → Type 0
MayOpen source test entry from None =
    passes test (tokens_in source.bytes.now from.place.rest.now) ≡ false
MayOpen source test entry from (Some found) = IsPassed source test entry from found.0 found.1

-- the place behind so many of the next tokens, where nothing ends at them
pub record IsBehind (many : ℕ) (from to : Here) : Type 0 where
  pub place : (source : List ℕ)
      → place_in source to.place ≡ passed (replicate many plain) (place_in source from.place)
  pub limit : to.place.limit ≡ from.place.limit
  pub reach : to.reach ≡ from.reach
  pub on : from.place.at ≤ to.place.at
  pub behind : (source : Source) → IsAt source from.place → IsAt source to.place

-- the same place, where a token opens too much, or not
pub record IsNoting (deep : Bool) (at : ℕ) (token : Token) (from to : Here) : Type 0 where
  pub limit : (source : List ℕ) → option_map (told_in source) to.place.limit
      ≡ noted (option_map (told_in source) from.place.limit) (deep_by deep) at
      (token_in source token)
  pub rises : to.place.limit ≡ None → from.place.limit ≡ None
  pub stays : to.place.at ≡ from.place.at
  pub rest : to.place.rest.now ≡ from.place.rest.now
  pub reach : to.reach ≡ from.reach

-- no token goes on at a place, and so far go the ways
abbrev pub IsFailure : Source → Here → Option FarthestFailure → Type 0
IsFailure source from reach =
    option_map (reach_in source.bytes.now) reach
    ≡ further (option_map (reach_in source.bytes.now) from.reach)
    (reach_at None 0 (lists.settled (place_in source.bytes.now from.place)))

-- nothing is read at a place
abbrev pub Refuses : Source → Here → Unread → Type 0
Refuses source from (unread.Refused reach) = IsFailure source from reach
Refuses source from (unread.Deep told) = ⊥
Refuses source from unread.NoMemory = ⊥

-- the next token passes a test, or no token goes on
abbrev pub MustPass : Source → (Symbol → Bool) → Entry → Here → Result (Token × Here) Unread
    → Type 0
MustPass source test entry from (Ok found) = IsPassed source test entry from found.0 found.1
MustPass source test entry from (Err stop) =
    (passes test (tokens_in source.bytes.now from.place.rest.now) ≡ false)
    × Refuses source from stop

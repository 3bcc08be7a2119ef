-- How type arguments are looked for: as far as the grammar goes, whatever the limits.
use Rattle.std.specs.Prelude.{ℕ, zero, suc, Bool, true, false, ◌||◌, List, [], ◌∷◌, length, Option}
use Rattle.def_token.specs.Lexical.{Token}
use Rattle.def_tree.specs.Limits.{plain, opens}
use Rattle.def_tree.specs.Statements.{begins_with}
use Rattle.def_tree.specs.Symbol.{Symbol, Name, Number, Text, End, Sign, symbol, is_sign}
use Rattle.def_tree.specs.TypeTree.{TypeTree, Word, Named, TypeTrees, NoTypes, MoreTypes}
use Rattle.def_reading.specs.Cursor.{Told, Cursor, At, advance}
use Rattle.def_reading.specs.TypeReading.{Lead, AWord, AName, NoType, lead_of}

-- a tree, and the place behind it; or the place of the first token that continues none
pub data LookAhead (A : Type 0) : Type 0 where
  Found : A → Cursor → LookAhead A
  Missing : Cursor → LookAhead A

-- what is found behind something
abbrev pub found_then : {A B : Type 0} → (A → Cursor → LookAhead B) → LookAhead A → LookAhead B
found_then next (Found a place) = next a place
found_then next (Missing place) = Missing place

-- a tree made of what is found
abbrev pub found_as : {A B : Type 0} → (A → B) → LookAhead A → LookAhead B
found_as make (Found a place) = Found (make a) place
found_as make (Missing place) = Missing place

-- the symbol is a name
abbrev pub names : Symbol → Bool
names Name = true
names (Number wide) = false
names Text = false
names End = false
names (Sign text) = false

-- a dot with a name behind it and more of them, a dot with something else behind it, or no dot
abbrev pub path_by : Bool → Bool → ℕ → Option Told → Token → Token → List Token
    → LookAhead (List Token)
    → LookAhead (List Token)
path_by true true at limit dot name tokens more = found_as (λ path. name ∷ path) more
path_by true false at limit dot name tokens more = Missing (At (suc at) limit (name ∷ tokens))
path_by false named at limit dot name tokens more = Found [] (At at limit (dot ∷ name ∷ tokens))

-- the names behind dots
abbrev pub path_ahead : ℕ → Option Told → List Token → LookAhead (List Token)
path_ahead at limit [] = Found [] (At at limit [])
path_ahead at limit (dot ∷ []) = Found [] (At at limit (dot ∷ []))
path_ahead at limit (dot ∷ name ∷ tokens) =
    path_by (is_sign "." (symbol dot)) (names (symbol name)) at limit dot name tokens
    (path_ahead (suc (suc at)) limit tokens)

-- the names behind dots at a place
abbrev pub path_from : Cursor → LookAhead (List Token)
path_from (At at limit tokens) = path_ahead at limit tokens

-- a type by what its first token begins: the place behind this token, and the type arguments there,
-- if there are any
abbrev pub type_by : Lead → Cursor → LookAhead TypeTrees → Token → Cursor → LookAhead TypeTree
type_by (AWord word) behind args first place = found_as (Word word first) (path_from behind)
type_by AName behind args first place =
    found_then (λ found after. found_as (Named first found) (path_from after)) args
type_by NoType behind args first place = Missing place

-- what stands behind a type in a list: a comma and more types, the closing mark, or neither
abbrev pub list_by : Bool → Bool → (Cursor → LookAhead TypeTrees) → TypeTree → Cursor → Cursor
    → LookAhead TypeTrees
list_by true closes more type behind place = found_as (MoreTypes type) (more behind)
list_by false true more type behind place = Found (MoreTypes type NoTypes) behind
list_by false false more type behind place = Missing place

-- what stands behind a type in a list, at a place
abbrev pub list_behind : (Cursor → LookAhead TypeTrees) → TypeTree → Cursor → LookAhead TypeTrees
list_behind more type (At at limit []) = Missing (At at limit [])
list_behind more type (At at limit (mark ∷ tokens)) =
    list_by (is_sign "," (symbol mark)) (is_sign ">" (symbol mark)) more type
    (At (suc at) limit tokens) (At at limit (mark ∷ tokens))

-- type arguments behind `<`, or none
abbrev pub args_by : Bool → (Cursor → LookAhead TypeTrees) → Cursor → LookAhead TypeTrees
args_by true list place = list (advance plain place)
args_by false list place = Found NoTypes place

-- the type arguments at a place, if there are any
abbrev pub args_at : (Cursor → LookAhead TypeTrees) → Cursor → LookAhead TypeTrees
args_at list (At at limit tokens) = args_by (begins_with "<" tokens) list (At at limit tokens)

-- types, and types up to `>`, in at most so many turns, inside so many open types
abbrev mutual
  pub type_ahead : ℕ → ℕ → Cursor → LookAhead TypeTree
  type_ahead zero types place = Missing place
  type_ahead (suc turns) types (At at limit []) = Missing (At at limit [])
  type_ahead (suc turns) types (At at limit (first ∷ tokens)) =
      let behind = advance (opens (suc types)) (At at limit (first ∷ tokens)) in
      type_by (lead_of (symbol first)) behind (args_at (list_ahead turns (suc types)) behind) first
      (At at limit (first ∷ tokens))

  pub list_ahead : ℕ → ℕ → Cursor → LookAhead TypeTrees
  list_ahead zero types place = Missing place
  list_ahead (suc turns) types place =
      found_then (λ type behind. list_behind (list_ahead turns types) type behind)
      (type_ahead turns types place)

-- a token behind type arguments leads on
abbrev pub leads_on : List Token → Bool
leads_on tokens = begins_with "(" tokens || (begins_with "." tokens || begins_with "::" tokens)

-- type arguments that something behind them leads on
abbrev pub led_by : Bool → TypeTrees → Cursor → LookAhead TypeTrees
led_by true args place = Found args place
led_by false args place = Missing place

-- type arguments, if a token behind them leads on
abbrev pub if_led : TypeTrees → Cursor → LookAhead TypeTrees
if_led args (At at limit tokens) = led_by (leads_on tokens) args (At at limit tokens)

-- the type arguments that a name in front of `<` takes, inside so many open types
abbrev pub taken_ahead : ℕ → ℕ → Option Told → List Token → LookAhead TypeTrees
taken_ahead types at limit tokens =
    found_then if_led (list_ahead (suc (length tokens)) types (advance plain (At at limit tokens)))

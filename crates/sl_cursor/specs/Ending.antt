-- Where looks ahead end, whatever the limits are and however many types are open.
use Rattle.std.specs.Prelude.{◌≡◌, ℕ, suc, ◌+◌, ◌-◌, ◌<◌, ◌≤◌, Bool, true, false, List, length, drop, slice_get, Option, Some}
use Rattle.def_token.specs.Lexical.{Token}
use Rattle.def_reading.specs.Cursor.{Told, Cursor, At}
use Rattle.def_reading.specs.TypeAhead.{LookAhead, Found, Missing, path_ahead, type_ahead, list_ahead}
use Rattle.sl_cursor.specs.declared.ends.End.{End}
use Rattle.sl_cursor.specs.declared.ends.Ends.{Ends}

-- whether something is found, how many tokens stand before the place where the look ends, and those
-- from it on
abbrev pub Ending : Type 0
Ending = Bool × ℕ × List Token

-- where a look ends at a place
abbrev pub ending_at : Bool → Cursor → Ending
ending_at found (At at limit tokens) = (found, at, tokens)

-- where a look ends
abbrev pub ending_of : {A : Type 0} → LookAhead A → Ending
ending_of (Found a place) = ending_at true place
ending_of (Missing place) = ending_at false place

-- the end behind so many of these tokens, of which the first has this number
abbrev pub end_in : End → ℕ → List Token → Ending
end_in end at tokens = (end.found, at + end.many, drop end.many tokens)

-- names behind dots end so
abbrev pub PathEnds : End → List Token → Type 0
PathEnds end tokens =
    (at : ℕ) (limit : Option Told) → ending_of (path_ahead at limit tokens) ≡ end_in end at tokens

-- a type ends so
abbrev pub TypeEnds : End → List Token → Type 0
TypeEnds end tokens =
    (turns types at : ℕ) (limit : Option Told) → length tokens < turns
    → ending_of (type_ahead turns types (At at limit tokens)) ≡ end_in end at tokens

-- types up to `>` end so
abbrev pub ListEnds : End → List Token → Type 0
ListEnds end tokens =
    (turns types at : ℕ) (limit : Option Told) → suc (length tokens) < turns
    → ending_of (list_ahead turns types (At at limit tokens)) ≡ end_in end at tokens

-- what is kept for tokens is right
pub record AreEnds (ends : Ends) (tokens : List Token) : Type 0 where
  pub path : PathEnds ends.path tokens
  pub one : TypeEnds ends.one tokens
  pub list : ListEnds ends.list tokens
  pub path_in : ends.path.many ≤ length tokens
  pub one_in : ends.one.many ≤ length tokens
  pub list_in : ends.list.many ≤ length tokens

-- a table has what is right for the last so many tokens, for each number up to its length
abbrev pub IsTable : List Token → List Ends → Type 0
IsTable tokens table =
    (left : ℕ) (ends : Ends) → slice_get table left ≡ Some ends
    → AreEnds ends (drop (length tokens - left) tokens)

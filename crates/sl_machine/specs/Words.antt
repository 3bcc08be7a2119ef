-- The signs of expressions, as the functions on lists have them.
use Rattle.std.specs.Prelude.{◌≡◌, ℕ, List, map, codes}
use Rattle.std.specs.Borrow.{Bor}
use Prim.Native.String.{String}
use Rattle.sl_tree.specs.View.{word_of, unary_of}
use Rattle.def_reading.specs.Machine as machine
use Rattle.sl_machine.specs.declared.words.Behind.{Behind}
use Rattle.sl_machine.specs.declared.words.Behind.TheVariants as behind
use Rattle.sl_machine.specs.declared.words.Start.{Start}
use Rattle.sl_machine.specs.declared.words.Start.TheVariants as start

-- a sign before operands
abbrev pub start_in : Start → machine.Start
start_in start.True = machine.True
start_in start.False = machine.False
start_in start.Itself = machine.Itself
start_in start.OwnType = machine.OwnType
start_in start.Bracket = machine.Bracket
start_in (start.Scalar word) = machine.Scalar (word_of word)
start_in (start.Unary operator) = machine.Unary (unary_of operator)

-- a sign behind operands
abbrev pub behind_in : Behind → machine.Behind
behind_in behind.Call = machine.Call
behind_in behind.Index = machine.Index
behind_in behind.Dot = machine.Dot
behind_in behind.Colons = machine.Colons
behind_in behind.Question = machine.Question
behind_in behind.Colon = machine.Colon
behind_in behind.Comma = machine.Comma
behind_in behind.Closing = machine.Closing
behind_in behind.IndexClosing = machine.IndexClosing

-- a row of a table: its text, and what it stands for
abbrev pub row_in : {T A : Type 0} → (T → A) → Bor (List ℕ) × T → List ℕ × A
row_in view row = (row.0.now, view row.1)

-- one of a table on lists, with its text
abbrev pub with_text : {A : Type 0} → (A → String) → A → List ℕ × A
with_text text_of a = (codes (text_of a), a)

-- the rows are those of a table on lists
abbrev pub AreRows : {T A : Type 0} → (T → A) → (A → String) → List A → List (Bor (List ℕ) × T)
    → Type 0
AreRows view text_of table rows = map (row_in view) rows ≡ map (with_text text_of) table

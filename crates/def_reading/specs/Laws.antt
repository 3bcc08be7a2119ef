-- What the laws of this crate say.
use Rattle.std.specs.Prelude.{List, Ok, Err}
use Rattle.def_token.specs.Lexical.{Token}
use Rattle.def_tree.specs.Fault.{fault_at, IsRead, HasFault}
use Rattle.def_tree.specs.Limits.{Entry, Nesting, whole_entries, stmt_entries}
use Rattle.def_tree.specs.Part.{IsExprPart, IsStmtPart}
use Rattle.def_reading.specs.StmtReading.{stmt_of}
use Rattle.def_reading.specs.Try.{expr_of}
use Rattle.def_reading.specs.TypeReading.{Ended, Reading}

-- What is read is the tree that tokens begin with, within the limits; else it stops where the
-- tokens have their fault.
abbrev pub IsExact : {Tree : Type 0}
    → (List Token → Tree → List Token → Type 0) → (Tree → List Entry) → List Token → Reading Tree
    → Type 0
IsExact IsPart entries_of tokens (Ok found) = IsRead IsPart entries_of tokens found.0 found.1
IsExact IsPart entries_of tokens (Err stop) =
    HasFault IsPart entries_of tokens (fault_at stop.code stop.token)

-- what is read of expressions is exact, with these forms open around them
abbrev pub ExpressionsAreExact : Type 0
ExpressionsAreExact =
    (around : Nesting) (tokens : List Token)
    → Ended tokens → IsExact IsExprPart (whole_entries around) tokens (expr_of around tokens)

-- what is read of statements is exact, with these forms open around them
abbrev pub StatementsAreExact : Type 0
StatementsAreExact =
    (around : Nesting) (tokens : List Token)
    → Ended tokens → IsExact IsStmtPart (stmt_entries around) tokens (stmt_of around tokens)

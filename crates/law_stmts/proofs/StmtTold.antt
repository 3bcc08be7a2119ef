-- What is told of a statement that is read is exact.
use Rattle.std.proofs.Common.{ℕ, List}
use Rattle.std.specs.Prelude.{Option, Some, None}
use Rattle.def_token.specs.Lexical.{Token}
use Rattle.def_tree.specs.Limits.{Nesting, stmt_entries}
use Rattle.def_tree.specs.Part.{IsStmtPart}
use Rattle.def_tree.specs.StmtTree.{StmtTree}
use Rattle.def_reading.specs.Laws.{IsExact}
use Rattle.def_reading.specs.Cursor.{Told, At, FarthestFailure}
use Rattle.def_reading.specs.Try.{Reads, read_by}
use Rattle.def_reading.specs.TypeReading.{Ended}
use Rattle.law_stmts.proofs.StmtLimits.{limit_told}
use Rattle.law_stmts.proofs.StmtRead.{IsWhole, read_is}

pub whole_told : (around : Nesting) (tokens : List Token) (stmt : StmtTree) (at : ℕ) (limit : Option Told) (rest : List Token) (reach : Option FarthestFailure) → Ended tokens → IsWhole around tokens stmt at limit rest
    → IsExact IsStmtPart (stmt_entries around) tokens (read_by (Reads stmt (At at limit rest) reach))
whole_told around tokens stmt at None rest reach e w = read_is around tokens stmt at rest w
whole_told around tokens stmt at (Some told) rest reach e w = limit_told around tokens stmt at told rest e w

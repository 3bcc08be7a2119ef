-- The readers on lists are exact in front of the tokens of a source.
use Rattle.std.proofs.Common.{suc, true, ◌<◌, List, [], ◌∷◌, length, arith}
use Rattle.std.specs.Prelude.{None}
use Rattle.def_token.specs.Lexical.{Token}
use Rattle.def_tree.specs.Limits.{Nesting, whole_entries, stmt_entries}
use Rattle.def_tree.specs.Part.{IsExprPart, IsStmtPart}
use Rattle.def_reading.specs.Cursor.{At}
use Rattle.def_reading.specs.Try.{expr_in}
use Rattle.def_reading.specs.StmtReading.{stmt_in}
use Rattle.def_reading.specs.TypeReading.{Ended}
use Rattle.law_stmts.proofs.EndsBehind.{expr_ended, expr_fewer, stmt_ended, stmt_fewer}
use Rattle.law_exprs.proofs.OneRun.{expressions_are_exact}
use Rattle.law_stmts.proofs.StmtExact.{statements_are_exact}
use Rattle.sl_stmt.proofs.Answered.{IsExactTry, Lasts}

some_length : (tokens : List Token) → Ended tokens → 0 < length tokens
some_length [] e = absurd e
some_length (t ∷ tokens) e = omega arith

pub expr_lasts : (around : Nesting) (tokens : List Token) → Ended tokens → Lasts IsExprPart (whole_entries around) tokens
expr_lasts around tokens e =
    record { some = λ tree rest part. some_length rest (expr_ended part.tree e); fewer = λ tree rest part. expr_fewer part.tree }

pub expr_exact : (around : Nesting) (tokens : List Token) → Ended tokens → IsExactTry IsExprPart (whole_entries around) tokens (expr_in true around None (At 0 None tokens))
expr_exact around tokens e = expressions_are_exact around tokens e

pub stmt_lasts : (around : Nesting) (tokens : List Token) → Ended tokens → Lasts IsStmtPart (stmt_entries around) tokens
stmt_lasts around tokens e =
    record { some = λ tree rest part. some_length rest (stmt_ended part e); fewer = λ tree rest part. stmt_fewer part }

pub stmt_exact : (around : Nesting) (tokens : List Token) → Ended tokens → IsExactTry IsStmtPart (stmt_entries around) tokens (stmt_in (suc (length tokens)) around None (At 0 None tokens))
stmt_exact around tokens e = statements_are_exact around tokens e

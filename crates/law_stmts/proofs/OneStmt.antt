-- Tokens begin with one statement at most, and what is told of them is determined.
use Rattle.std.proofs.Common.{ℕ, List, length, le_refl}
use Rattle.def_token.specs.Lexical.{Token}
use Rattle.def_tree.specs.Fault.{AtMostOne, Spot}
use Rattle.def_tree.specs.Laws.{AreDetermined, AreLast}
use Rattle.def_tree.specs.Limits.{all_open, whole_entries, stmt_entries}
use Rattle.def_tree.specs.Part.{IsExprPart, IsStmtPart}
use Rattle.def_reading.specs.StmtReading.{stmt_in}
use Rattle.law_exprs.proofs.OneTree.{one_expr, one_reading}
use Rattle.law_tree.proofs.Determined.{determined, refused_last}
use Rattle.law_stmts.proofs.StmtComes.{stmt_is}

pub one_stmt : AtMostOne IsStmtPart
one_stmt tokens rest behind this other p q =
    one_reading (stmt_in (length tokens) (all_open 0)) tokens rest behind this other _ _
    (stmt_is p (all_open 0) (length tokens) (le_refl (length tokens))) (stmt_is q (all_open 0) (length tokens) (le_refl (length tokens)))

pub all_determined : (depth : ℕ) (tokens : List Token) → AreDetermined depth tokens
all_determined depth tokens =
    record {
      expr = determined IsExprPart (whole_entries (all_open depth)) one_expr tokens;
      stmt = determined IsStmtPart (stmt_entries (all_open depth)) one_stmt tokens;
    }

pub all_last : (depth : ℕ) (tokens : List Token) (spot : Spot) → AreLast depth tokens spot
all_last depth tokens spot =
    record {
      expr = refused_last IsExprPart (whole_entries (all_open depth)) tokens spot;
      stmt = refused_last IsStmtPart (stmt_entries (all_open depth)) tokens spot;
    }

-- A statement that is read, with a limit on the way, is refused at the first one.
use Rattle.std.proofs.Common.{◌≡◌, ℕ, List, ◌++◌}
use Rattle.std.specs.Prelude.{Some}
use Rattle.def_token.specs.Lexical.{Token}
use Rattle.def_tree.specs.Fault.{fault_at, HasFault}
use Rattle.def_tree.specs.Limits.{Nesting, stmt_entries}
use Rattle.def_tree.specs.Part.{IsStmtPart}
use Rattle.def_tree.specs.Statements.{IsStmt}
use Rattle.def_tree.specs.StmtTree.{StmtTree}
use Rattle.law_tree.proofs.StmtsCovered.{stmt_covered}
use Rattle.law_stmts.proofs.OneStmt.{one_stmt}
use Rattle.def_reading.specs.Cursor.{Told}
use Rattle.def_reading.specs.TypeReading.{Ended}
use Rattle.law_stmts.proofs.PartTold.{ends_with, whole_told}
use Rattle.law_stmts.proofs.StmtAlien.{stmt_stays}
use Rattle.law_stmts.proofs.StmtRead.{IsWhole}

-- tokens begin with no other statement, whatever stands behind their end
pub no_other : (tokens more rest behind : List Token) (stmt other : StmtTree) → Ended tokens → IsStmt tokens stmt rest → IsStmt (tokens ++ more) other behind → other ≡ stmt
no_other tokens more rest behind stmt other e s o =
    let end = ends_with tokens e in
    let stays = stmt_stays end.mark end.is_end s (end.agree more) in
    (one_stmt (tokens ++ more) behind stays.rest' other stmt o stays.part).0

-- what is told of a statement over a limit
pub limit_told : (around : Nesting) (tokens : List Token) (stmt : StmtTree) (at : ℕ) (told : Told) (rest : List Token) → Ended tokens → IsWhole around tokens stmt at (Some told) rest
    → HasFault IsStmtPart (stmt_entries around) tokens (fault_at told.code told.token)
limit_told around tokens stmt at told rest e w =
    whole_told IsStmtPart (stmt_entries around) (λ tokens rest stmt s. stmt_covered around s) no_other tokens stmt at told rest e w

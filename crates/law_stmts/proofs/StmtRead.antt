-- What is read as a statement, with no limit on the way, is the statement that the tokens begin with, within the limits.
use Rattle.std.proofs.Common.{◌≡◌, ℕ, suc, List, length, sym, subst, ◌∙◌, arith}
use Rattle.std.specs.Prelude.{Option, None}
use Rattle.def_token.specs.Lexical.{Token}
use Rattle.def_tree.specs.Fault.{IsRead}
use Rattle.def_tree.specs.Limits.{Nesting, stmt_entries}
use Rattle.def_tree.specs.Part.{IsStmtPart}
use Rattle.def_tree.specs.Statements.{IsStmt}
use Rattle.def_tree.specs.StmtTree.{StmtTree}
use Rattle.law_tree.proofs.StmtsCovered.{stmt_covered}
use Rattle.def_reading.specs.Cursor.{Told, Cursor, At, FarthestFailure}
use Rattle.def_reading.specs.StmtReading.{stmt_in}
use Rattle.def_reading.specs.Try.{Reads}
use Rattle.law_stmts.proofs.PartTold as parts
use Rattle.law_stmts.proofs.PartTold.{whole_read}
use Rattle.law_stmts.proofs.StmtComes.{stmt_is}
use Rattle.law_stmts.proofs.StmtSound.{stmt_sound}
use Rattle.law_exprs.proofs.TrySound.{Sound}

-- what is read, with the first limit of its tokens
abbrev pub IsWhole : Nesting → List Token → StmtTree → ℕ → Option Told → List Token → Type 0
IsWhole around tokens stmt at limit rest = parts.IsWhole IsStmtPart (stmt_entries around) tokens stmt at limit rest

pub reads_same : {A : Type 0} (a b : A) (p q : Cursor) (r s : Option FarthestFailure) → Reads a p r ≡ Reads b q s → p ≡ q
reads_same a b p q r s h = cc

-- a statement that is read stands at the front, and the place behind it has its first limit
pub whole_is : (around : Nesting) (tokens : List Token) (stmt : StmtTree) (at : ℕ) (limit : Option Told) (rest : List Token) (reach : Option FarthestFailure)
    → stmt_in (suc (length tokens)) around None (At 0 None tokens) ≡ Reads stmt (At at limit rest) reach → IsWhole around tokens stmt at limit rest
whole_is around tokens stmt at limit rest reach is =
    let part : IsStmt tokens stmt rest = subst (Sound (IsStmt tokens)) is (stmt_sound (suc (length tokens)) around 0 None tokens None) in
    let g = (stmt_is part around (suc (length tokens)) (omega arith)).comes 0 None None in
    record { part = part; passes = g.passes tt ∙ reads_same stmt stmt (At g.at g.limit rest) (At at limit rest) g.reach reach (sym g.is ∙ is) }

-- with no limit on the way it is within the limits
pub read_is : (around : Nesting) (tokens : List Token) (stmt : StmtTree) (at : ℕ) (rest : List Token) → IsWhole around tokens stmt at None rest → IsRead IsStmtPart (stmt_entries around) tokens stmt rest
read_is around tokens stmt at rest w = whole_read IsStmtPart (stmt_entries around) (λ tokens rest stmt s. stmt_covered around s) tokens stmt at rest w

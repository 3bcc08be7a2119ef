-- Tokens that end with their end have it behind each tree with which they begin, and a tree has some token.
use Rattle.std.proofs.Common.{◌≡◌, ◌<◌, ◌≤◌, List, [], ◌∷◌, ◌++◌, length, arith, length-append}
use Rattle.std.specs.Prelude.{replicate}
use Rattle.def_token.specs.Lexical.{Token}
use Rattle.def_tree.specs.ExprTree as tree
use Rattle.def_tree.specs.ExprTree.{ExprTree}
use Rattle.def_tree.specs.Expressions.{IsExpr}
use Rattle.def_tree.specs.Limits.{Nesting, in_bracket, plain, opens, operator_tokens, expr_entries, exprs_entries, local_entries, simple_entries, stmt_entries}
use Rattle.def_tree.specs.Statements.{IsStmt}
use Rattle.def_tree.specs.StmtTree as stmts
use Rattle.def_tree.specs.StmtTree.{StmtTree}
use Rattle.def_tree.specs.Symbol.{End, symbol}
use Rattle.law_tree.proofs.Covered.{expr_covered}
use Rattle.law_tree.proofs.StmtsCovered.{stmt_covered}
use Rattle.def_reading.specs.TypeReading.{Ended}
use Rattle.law_types.proofs.AheadKept.{ended_cons}
use Rattle.law_stmts.proofs.Alien.{Agree, at_mark, before, expr_stays}
use Rattle.law_stmts.proofs.StmtAlien.{alien, stmt_stays}

-- the last of some tokens, which is their end
record HasEnd (tokens : List Token) : Type 0 where
  mark : Token
  is_end : symbol mark ≡ End
  agree : Agree mark [] [] tokens tokens

has_end : (tokens : List Token) → Ended tokens → HasEnd tokens
has_end [] e = absurd e
has_end (token ∷ []) e = record { mark = token; is_end = e; agree = at_mark }
has_end (token ∷ next ∷ tokens) e =
    let h = has_end (next ∷ tokens) e in record { mark = h.mark; is_end = h.is_end; agree = before h.agree }

ended_agree : {mark : Token} {tokens others : List Token} → symbol mark ≡ End → Agree mark [] [] tokens others → Ended tokens
ended_agree is at_mark = is
ended_agree is (before {t = t} {ts = ts} a) = ended_cons t ts (ended_agree is a)

pub expr_ended : {tokens rest : List Token} {e : ExprTree} → IsExpr tokens e rest → Ended tokens → Ended rest
expr_ended {tokens = tokens} part e =
    let h = has_end tokens e in ended_agree h.is_end (expr_stays h.mark (alien h.mark h.is_end) part h.agree).agree

pub stmt_ended : {tokens rest : List Token} {stmt : StmtTree} → IsStmt tokens stmt rest → Ended tokens → Ended rest
stmt_ended {tokens = tokens} part e =
    let h = has_end tokens e in ended_agree h.is_end (stmt_stays h.mark h.is_end part h.agree).agree

-- an expression has some token
some_entries : (around : Nesting) (e : ExprTree) → 1 ≤ length (expr_entries around e)
some_entries around (tree.Number token) = omega arith
some_entries around (tree.BooleanLiteral value token) = omega arith
some_entries around (tree.Itself token) = omega arith
some_entries around (tree.Name token args) = omega arith
some_entries around (tree.FunctionalCast word token operand) = omega arith
some_entries around (tree.OwnType token) = omega arith
some_entries around (tree.Group opening inner) = omega arith
some_entries around (tree.Call callee opening args) =
    omega (arith, length-append (expr_entries around callee) (opens (in_bracket around).brackets ∷ (exprs_entries (in_bracket around) args ++ plain ∷ [])))
some_entries around (tree.Index base opening index) =
    omega (arith, length-append (expr_entries around base) (opens (in_bracket around).brackets ∷ (expr_entries (in_bracket around) index ++ plain ∷ [])))
some_entries around (tree.Member base name) = omega (arith, length-append (expr_entries around base) (plain ∷ plain ∷ []))
some_entries around (tree.Unary operator token operand) = omega arith
some_entries around (tree.Cast opening word token operand) = omega arith
some_entries around (tree.Binary operator token left right) =
    omega (arith, some_entries around left, length-append (expr_entries around left) (replicate (operator_tokens operator) plain ++ expr_entries around right))
some_entries around (tree.Conditional condition question yes' no') =
    omega (arith, length-append (expr_entries around condition) (plain ∷ (expr_entries around yes' ++ plain ∷ expr_entries around no')))

pub expr_fewer : {tokens rest : List Token} {e : ExprTree} → IsExpr tokens e rest → length rest < length tokens
expr_fewer {e = e} part =
    let around : Nesting = record { brackets = 0; blocks = 0; unary = 0; types = 0; statements = 0 } in
    omega (arith, expr_covered around part, some_entries around e)

-- a statement has some token
pub stmt_fewer : {tokens rest : List Token} {stmt : StmtTree} → IsStmt tokens stmt rest → length rest < length tokens
stmt_fewer {stmt = stmt} part =
    let around : Nesting = record { brackets = 0; blocks = 0; unary = 0; types = 0; statements = 0 } in
    omega (arith, stmt_covered around part, some_stmt around stmt)
  where
    some_stmt : (around : Nesting) (stmt : StmtTree) → 1 ≤ length (stmt_entries around stmt)
    some_stmt around (stmts.Block opening more) = omega arith
    some_stmt around (stmts.Local local) = omega (arith, length-append (local_entries around local) (plain ∷ []))
    some_stmt around (stmts.Simple simple) = omega (arith, length-append (simple_entries around simple) (plain ∷ []))
    some_stmt around (stmts.Empty semicolon) = omega arith
    some_stmt around (stmts.Return word value) = omega arith
    some_stmt around (stmts.Break word) = omega arith
    some_stmt around (stmts.Continue word) = omega arith
    some_stmt around (stmts.If word condition yes') = omega arith
    some_stmt around (stmts.IfElse word condition yes' no') = omega arith
    some_stmt around (stmts.While word condition body) = omega arith
    some_stmt around (stmts.For word start condition step body) = omega arith

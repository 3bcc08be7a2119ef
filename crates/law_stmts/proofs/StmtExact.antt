-- What is read of statements is exact.
use Rattle.std.proofs.Common.{◌≡◌, ⊎_elim, ℕ, zero, suc, ◌<◌, List, [], ◌∷◌, ◌++◌, length, refl, sym, ap, subst, ◌∙◌, arith}
use Rattle.std.specs.Prelude.{Some, None, slice_get}
use Rattle.def_token.specs.Lexical.{Token}
use Rattle.def_tree.specs.Fault.{spot_of}
use Rattle.def_tree.specs.Limits.{Nesting}
use Rattle.def_tree.specs.StmtTree.{StmtTree}
use Rattle.def_reading.specs.Cursor.{At, FarthestFailure}
use Rattle.def_reading.specs.Laws.{StatementsAreExact}
use Rattle.def_reading.specs.StmtReading.{stmt_in}
use Rattle.def_reading.specs.Try.{Try, Stops}
use Rattle.law_exprs.proofs.Quiet.{NoElse}
use Rattle.law_stmts.proofs.StmtFaults.{IsReached, exact_by}
use Rattle.law_stmts.proofs.StmtTraced.{Calm, Stmts, traces_stmt}
use Rattle.law_exprs.proofs.TryTraces.{Completes, Traced}

-- no way is none
none_some : (b : FarthestFailure) → None ≡ Some b → ⊥
none_some b h = cc

-- a token that stands among others stands inside
pub stands_inside : (ts : List Token) (k : ℕ) (t : Token) → slice_get ts k ≡ Some t → k < length ts
stands_inside [] k t h = absurd (cc)
stands_inside (u ∷ ts) zero t h = omega arith
stands_inside (u ∷ ts) (suc k) t h = omega (arith, stands_inside ts k t h)

-- a tree that goes as far is a statement that continues the tokens
reached : (around : Nesting) (tokens : List Token) (b : FarthestFailure) → Completes tokens (Stmts around) Calm NoElse 0 None tokens b → IsReached around tokens b
reached around tokens b c =
    let whole = c.whole [] refl in
    record {
      front = c.front;
      tail = c.tail;
      more = c.more ++ [];
      rest = [];
      stmt = c.tree;
      are = c.are;
      many = omega (arith, c.here);
      part = whole.0;
      spot = ap (spot_of (length c.front)) (sym whole.1) ∙ c.spot;
      inside = stands_inside tokens b.told.at b.told.token c.stands;
      stands = c.stands;
    }

-- where the reader stops a statement goes as far
reached_by : (around : Nesting) (tokens : List Token) (b : FarthestFailure) (look : Try StmtTree) → Traced tokens (Stmts around) Calm NoElse NoElse None 0 None tokens b look → look ≡ Stops (Some b) → IsReached around tokens b
reached_by around tokens b look t is =
    ⊎_elim (λ h. absurd (none_some b h)) (λ c. reached around tokens b c) (subst (Traced tokens (Stmts around) Calm NoElse NoElse None 0 None tokens b) is t refl)

-- what is read of statements is the statement, or what is told of the tokens
pub statements_are_exact : StatementsAreExact
statements_are_exact around tokens end =
    exact_by around tokens end
    (λ b is.
    reached_by around tokens b (stmt_in (suc (length tokens)) around None (At 0 None tokens))
    (traces_stmt tokens (suc (length tokens)) around 0 None tokens None b end tt (record { front = []; are = refl; is_at = refl; stands = tt })) is)

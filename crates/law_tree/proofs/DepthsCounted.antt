-- The marks of a text tell how deep its brackets and its blocks stand.
use Rattle.std.proofs.Common.{◌≡◌, ℕ, suc, ◌+◌, ◌-◌, ◌<◌, false, List, ◌∷◌, ◌++◌, length, refl, sym, ap, ◌∙◌, subst, arith}
use Rattle.std.specs.Prelude.{Some, IsTrue, slice_get}
use Rattle.def_token.specs.Lexical.{Token}
use Rattle.def_tree.specs.ExprTree.{ExprTree}
use Rattle.def_tree.specs.Expressions.{IsExpr}
use Rattle.def_tree.specs.Laws.{DepthsAreCounted, TellsDepth}
use Rattle.def_tree.specs.Limits.{Entry, Nesting, all_open, greatest_nesting, opens, expr_entries, whole_entries, stmt_entries}
use Rattle.def_tree.specs.Marks.{opens_bracket, opens_brace, open_brackets, open_braces, ends_with}
use Rattle.def_tree.specs.Statements.{IsStmt}
use Rattle.def_tree.specs.StmtTree.{StmtTree}
use Rattle.law_tree.proofs.Covered.{expr_covered}
use Rattle.law_tree.proofs.Depths.{Told, at_bracket, at_block}
use Rattle.law_tree.proofs.ExprDepths.{expr_run}
use Rattle.law_tree.proofs.StmtDepths.{Tells, whole_run, stmt_run}
use Rattle.law_tree.proofs.StmtsCovered.{whole_covered, stmt_covered}

-- the entry is the one of this depth
abbrev Exact : ℕ → Entry → Type 0
Exact depth entry = entry ≡ opens depth

-- A token stands in as many forms as there are around the tree and the marks before it leave open, since where nothing is
-- around the tree, they close no more than they open.
pub inside_is : {FitsThis FitsOther : ℕ → Entry → Type 0} {around opening closing at : ℕ} {these others : List Entry}
    → (told : Told FitsThis around opening closing these at) → Told FitsOther 0 opening closing others at
    → told.inside ≡ around + (opening - closing)
inside_is told bare = omega (arith, told.is, bare.is)

pub told_deep : {around opening closing at : ℕ} {these others : List Entry}
    → Told Tells around opening closing these at → Told Tells 0 opening closing others at
    → TellsDepth these at (suc (around + (opening - closing)))
told_deep told bare deep =
    told.stands ∙ ap Some (told.fits (subst (λ n. greatest_nesting < suc n) (sym (inside_is told bare)) deep))

abbrev bare : Nesting
bare = all_open 0

module _ (around : Nesting) (before : List Token) (token : Token) (behind rest : List Token) where
  expr_counted : (expr : ExprTree) → IsExpr (before ++ token ∷ behind) expr rest → length before < length (expr_entries around expr) → IsTrue (opens_bracket token)
      → slice_get (expr_entries around expr) (length before) ≡ Some (opens (suc (around.brackets + open_brackets before)))
  expr_counted expr p within is =
      let told = at_bracket before token behind (expr_run Exact (λ depth. refl) 0 around p) within is in
      let other = at_bracket before token behind (expr_run Exact (λ depth. refl) 0 bare p) (omega (arith, within, expr_covered around p, expr_covered bare p)) is in
      told.stands ∙ ap Some (told.fits ∙ ap (λ n. opens (suc n)) (inside_is told other))

  whole_counted : (expr : ExprTree) → IsExpr (before ++ token ∷ behind) expr rest → length before < length (whole_entries around expr) → IsTrue (opens_bracket token)
      → TellsDepth (whole_entries around expr) (length before) (suc (around.brackets + open_brackets before))
  whole_counted expr p within is =
      told_deep (at_bracket before token behind (whole_run 0 around p) within is)
      (at_bracket before token behind (whole_run 0 bare p) (omega (arith, within, whole_covered around p, whole_covered bare p)) is)

  bracket_counted : (stmt : StmtTree) → IsStmt (before ++ token ∷ behind) stmt rest → length before < length (stmt_entries around stmt) → IsTrue (opens_bracket token)
      → TellsDepth (stmt_entries around stmt) (length before) (suc (around.brackets + open_brackets before))
  bracket_counted stmt p within is =
      told_deep (at_bracket before token behind (stmt_run around p) within is)
      (at_bracket before token behind (stmt_run bare p) (omega (arith, within, stmt_covered around p, stmt_covered bare p)) is)

  block_counted : (stmt : StmtTree) → IsStmt (before ++ token ∷ behind) stmt rest → length before < length (stmt_entries around stmt)
      → IsTrue (opens_brace token) → ends_with "=" before ≡ false
      → TellsDepth (stmt_entries around stmt) (length before) (suc (around.blocks + open_braces before))
  block_counted stmt p within is none =
      told_deep (at_block before token behind (stmt_run around p) within is none)
      (at_block before token behind (stmt_run bare p) (omega (arith, within, stmt_covered around p, stmt_covered bare p)) is none)

pub depths_are_counted : DepthsAreCounted
depths_are_counted around before token behind rest =
    record {
      expr = expr_counted around before token behind rest;
      whole = whole_counted around before token behind rest;
      bracket = bracket_counted around before token behind rest;
      block = block_counted around before token behind rest;
    }

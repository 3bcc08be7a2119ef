-- What the laws of this crate say.
use Rattle.std.specs.Prelude.{◌≡◌, ℕ, suc, ◌+◌, ◌<◌, false, List, ◌∷◌, ◌++◌, length, slice_get, Some, IsTrue}
use Rattle.def_token.specs.Lexical.{Token}
use Rattle.def_tree.specs.ExprTree.{ExprTree}
use Rattle.def_tree.specs.Expressions.{IsExpr}
use Rattle.def_tree.specs.Fault.{AreRefusedLast, AtMostOne, IsDetermined, Spot}
use Rattle.def_tree.specs.Limits.{Deep, Entry, Nesting, all_open, greatest_nesting, opens, type_entries, expr_entries, whole_entries, stmt_entries}
use Rattle.def_tree.specs.Marks.{opens_bracket, opens_brace, open_brackets, open_braces, ends_with}
use Rattle.def_tree.specs.Part.{IsExprPart, IsStmtPart}
use Rattle.def_tree.specs.Statements.{IsStmt}
use Rattle.def_tree.specs.StmtTree.{StmtTree}
use Rattle.def_tree.specs.TypeTree.{TypeTree}
use Rattle.def_tree.specs.Types.{IsType}

-- tokens begin with one expression at most
abbrev pub ExpressionsAreUnique : Type 0
ExpressionsAreUnique = AtMostOne IsExprPart

-- tokens begin with one statement at most
abbrev pub StatementsAreUnique : Type 0
StatementsAreUnique = AtMostOne IsStmtPart

-- what is told of tokens is determined, with so many forms of each kind open around them
pub record AreDetermined (depth : ℕ) (tokens : List Token) : Type 0 where
  pub expr : IsDetermined IsExprPart (whole_entries (all_open depth)) tokens
  pub stmt : IsDetermined IsStmtPart (stmt_entries (all_open depth)) tokens

-- what is told of tokens is told of the trees that continue them furthest, with so many forms of
-- each kind open around
pub record AreLast (depth : ℕ) (tokens : List Token) (spot : Spot) : Type 0 where
  pub expr : AreRefusedLast IsExprPart (whole_entries (all_open depth)) tokens spot
  pub stmt : AreRefusedLast IsStmtPart (stmt_entries (all_open depth)) tokens spot

-- what is told of any tokens is told of the trees that continue them furthest; of those the one
-- that is refused last
abbrev pub FaultsAreLast : Type 0
FaultsAreLast = (depth : ℕ) (tokens : List Token) (spot : Spot) → AreLast depth tokens spot

-- what is told of any tokens is determined
abbrev pub FaultsAreDetermined : Type 0
FaultsAreDetermined = (depth : ℕ) (tokens : List Token) → AreDetermined depth tokens

-- a tree has an entry for each of its tokens
pub record AreCovered (around : Nesting) (tokens rest : List Token) : Type 0 where
  pub type : (type : TypeTree) → IsType tokens type rest
      → length tokens ≡ length (type_entries around.types type) + length rest
  pub expr : (expr : ExprTree) → IsExpr tokens expr rest
      → length tokens ≡ length (expr_entries around expr) + length rest
  pub stmt : (stmt : StmtTree) → IsStmt tokens stmt rest
      → length tokens ≡ length (stmt_entries around stmt) + length rest

-- each tree has an entry for each of its tokens
abbrev pub EntriesCover : Type 0
EntriesCover = (around : Nesting) (tokens rest : List Token) → AreCovered around tokens rest

-- the limit of nesting ends at a token, if so many forms of a kind as are open then are too many
abbrev pub TellsDepth : List Entry → ℕ → ℕ → Type 0
TellsDepth entries at depth = greatest_nesting < depth → slice_get entries at ≡ Some (Some Deep)

-- How deep a bracket or a block is that opens at a token of a tree: it stands in those around the
-- tree, and in those that the marks of the tree before it leave open. In whole expressions and in
-- statements another limit can end at its token, too; the limit of nesting is told of the two. A
-- brace behind `=` is one of an initialiser, and opens no block.
pub record AreCounted (around : Nesting) (before : List Token) (token : Token)
    (behind rest : List Token) : Type 0 where
  pub expr : (expr : ExprTree) → IsExpr (before ++ token ∷ behind) expr rest
      → length before < length (expr_entries around expr) → IsTrue (opens_bracket token)
      → slice_get (expr_entries around expr) (length before)
      ≡ Some (opens (suc (around.brackets + open_brackets before)))
  pub whole : (expr : ExprTree) → IsExpr (before ++ token ∷ behind) expr rest
      → length before < length (whole_entries around expr) → IsTrue (opens_bracket token)
      → TellsDepth (whole_entries around expr) (length before)
      (suc (around.brackets + open_brackets before))
  pub bracket : (stmt : StmtTree) → IsStmt (before ++ token ∷ behind) stmt rest
      → length before < length (stmt_entries around stmt) → IsTrue (opens_bracket token)
      → TellsDepth (stmt_entries around stmt) (length before)
      (suc (around.brackets + open_brackets before))
  pub block : (stmt : StmtTree) → IsStmt (before ++ token ∷ behind) stmt rest
      → length before < length (stmt_entries around stmt)
      → IsTrue (opens_brace token) → ends_with "=" before ≡ false
      → TellsDepth (stmt_entries around stmt) (length before)
      (suc (around.blocks + open_braces before))

-- the marks of a tree tell how deep its brackets and blocks are
abbrev pub DepthsAreCounted : Type 0
DepthsAreCounted =
    (around : Nesting) (before : List Token) (token : Token) (behind rest : List Token)
    → AreCounted around before token behind rest

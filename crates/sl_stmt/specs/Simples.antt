-- Simple statements, and what may be one.
use Rattle.std.specs.Prelude.{◌≡◌, ℕ, List, None, Result}
use Rattle.def_tree.specs.ExprTree as trees
use Rattle.def_tree.specs.Statements.{is_call}
use Rattle.def_tree.specs.StmtTree as stmts
use Rattle.def_reading.specs.Try as lists
use Rattle.sl_tree.specs.View.{expr_in, simple_in}
use Rattle.sl_tree.specs.declared.expressions.ExprTree.{ExprTree}
use Rattle.sl_tree.specs.declared.statements.SimpleTree.{SimpleTree}
use Rattle.sl_cursor.specs.Following.{Follows}
use Rattle.sl_cursor.specs.declared.source.Here.{Here}
use Rattle.sl_cursor.specs.declared.source.Source.{Source}
use Rattle.sl_cursor.specs.declared.source.Unread.{Unread}

-- this is what lists have for an expression before a place
pub record IsOf (bytes : List ℕ) (here : Here) (expr : ExprTree) (tree : trees.ExprTree) : Type 0
  where
    pub same : here.place.limit ≡ None → tree ≡ expr_in bytes expr
    pub call : is_call tree ≡ is_call (expr_in bytes expr)

-- what stands behind an expression
abbrev pub FollowsExpr : Source → (trees.ExprTree → lists.Reader stmts.SimpleTree) → ExprTree → Here
    → Result (SimpleTree × Here) Unread → Type 0
FollowsExpr source reader expr from result =
    (tree : trees.ExprTree) → IsOf source.bytes.now from expr tree
    → Follows source (simple_in source.bytes.now) (reader tree) from result

-- The trees of statements.
use Rattle.std.specs.Prelude.{List, Option}
use Rattle.def_token.specs.Lexical.{Token}
use Rattle.def_tree.specs.ExprTree.{ExprTree, ExprTrees}
use Rattle.def_tree.specs.Operator.{Assignment, Step}
use Rattle.def_tree.specs.TypeTree.{TypeTree}

-- an initialiser: a value, or the values of fields behind an opening brace
pub data InitTree : Type 0 where
  Value : ExprTree → InitTree
  Fields : Token → ExprTrees → InitTree

-- a name with its initialiser
pub record Declarator : Type 0 where
  pub name : Token
  pub init : Option InitTree

-- the words of locals whose types need not be written
pub data Binding : Type 0 where
  Let : Binding
  Var : Binding

-- a local with its type behind the word `const`, if it is written, or behind `let` or `var`
pub data LocalTree : Type 0 where
  Typed : Option Token → TypeTree → List Declarator → LocalTree
  Inferred : Binding → Token → Token → Option TypeTree → ExprTree → LocalTree

-- a statement that changes a place or calls
pub data SimpleTree : Type 0 where
  Assign : Assignment → Token → ExprTree → ExprTree → SimpleTree
  PostfixStep : Step → ExprTree → Token → SimpleTree
  PrefixStep : Step → Token → ExprTree → SimpleTree
  CallStatement : ExprTree → SimpleTree

-- what a `for` begins with
pub data StartTree : Type 0 where
  NoStart : StartTree
  LocalStart : LocalTree → StartTree
  SimpleStart : SimpleTree → StartTree

-- A statement by its form, with the token with which it begins where its parts do not have it.
mutual
  pub data StmtTree : Type 0 where
    Block : Token → StmtTrees → StmtTree
    Local : LocalTree → StmtTree
    Simple : SimpleTree → StmtTree
    Empty : Token → StmtTree
    Return : Token → Option ExprTree → StmtTree
    Break : Token → StmtTree
    Continue : Token → StmtTree
    If : Token → ExprTree → StmtTree → StmtTree
    IfElse : Token → ExprTree → StmtTree → StmtTree → StmtTree
    While : Token → ExprTree → StmtTree → StmtTree
    For : Token → StartTree → Option ExprTree → Option SimpleTree → StmtTree → StmtTree

  pub data StmtTrees : Type 0 where
    NoStmts : StmtTrees
    MoreStmts : StmtTree → StmtTrees → StmtTrees

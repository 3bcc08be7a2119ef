-- The trees of expressions.
use Rattle.std.specs.Prelude.{Bool}
use Rattle.def_token.specs.Lexical.{Token}
use Rattle.def_tree.specs.Operator.{Operator, UnaryOperator}
use Rattle.def_tree.specs.TypeTree.{TypeTrees, TypeWord}

-- An expression by its form, with the tokens at which it is told: names, words, operators and
-- opening brackets.
mutual
  pub data ExprTree : Type 0 where
    Number : Token → ExprTree
    BooleanLiteral : Bool → Token → ExprTree
    Itself : Token → ExprTree
    Name : Token → TypeTrees → ExprTree
    FunctionalCast : TypeWord → Token → ExprTree → ExprTree
    OwnType : Token → ExprTree
    Group : Token → ExprTree → ExprTree
    Call : ExprTree → Token → ExprTrees → ExprTree
    Index : ExprTree → Token → ExprTree → ExprTree
    Member : ExprTree → Token → ExprTree
    Unary : UnaryOperator → Token → ExprTree → ExprTree
    Cast : Token → TypeWord → Token → ExprTree → ExprTree
    Binary : Operator → Token → ExprTree → ExprTree → ExprTree
    Conditional : ExprTree → Token → ExprTree → ExprTree → ExprTree

  pub data ExprTrees : Type 0 where
    NoExprs : ExprTrees
    MoreExprs : ExprTree → ExprTrees → ExprTrees

-- the token with which an expression begins
abbrev pub first_token : ExprTree → Token
first_token (Number token) = token
first_token (BooleanLiteral value token) = token
first_token (Itself token) = token
first_token (Name token args) = token
first_token (FunctionalCast word token operand) = token
first_token (OwnType token) = token
first_token (Group opening inner) = opening
first_token (Call callee opening args) = first_token callee
first_token (Index base opening index) = first_token base
first_token (Member base name) = first_token base
first_token (Unary operator token operand) = token
first_token (Cast opening word token operand) = opening
first_token (Binary operator token left right) = first_token left
first_token (Conditional condition question yes' no') = first_token condition

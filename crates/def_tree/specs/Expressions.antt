-- The grammar of expressions.
use Rattle.std.specs.Prelude.{◌≡◌, ◌⊎◌, ℕ, suc, ◌≤◌, true, false, List, ◌∷◌, IsTrue, codes}
use Rattle.def_token.specs.Lexical.{Token}
use Rattle.def_tree.specs.Symbol.{Is, IsName, IsNumeral}
use Rattle.def_tree.specs.TypeTree.{TypeWord, word_text, is_scalar, TypeTrees, NoTypes}
use Rattle.def_tree.specs.Types.{IsTypeArgs}
use Rattle.def_tree.specs.Operator.{Operator, operator_text, level, UnaryOperator, unary_text, sign_at}
use Rattle.def_tree.specs.ExprTree as tree
use Rattle.def_tree.specs.ExprTree.{ExprTree, ExprTrees, NoExprs, MoreExprs}

-- a token behind type arguments in an expression
abbrev pub LeadsOn : Token → Type 0
LeadsOn next = Is "(" next ⊎ Is "." next ⊎ Is "::" next

-- the tokens are type arguments, and a token behind them leads on
pub record TakesTypeArgs (tokens : List Token) (args : TypeTrees) (rest : List Token) : Type 0 where
  pub next : Token
  pub behind : List Token
  pub rest_is : rest ≡ next ∷ behind
  pub arguments : IsTypeArgs tokens args rest
  pub leads : LeadsOn next

-- a name in front of these tokens takes no type arguments
abbrev pub TakesNone : List Token → Type 0
TakesNone tokens = (args : TypeTrees) (rest : List Token) → TakesTypeArgs tokens args rest → ⊥

mutual
  -- Primary = Number | "true" | "false" | "this" | Name [ TypeArgs ] | "This" | "(" Expr ")"
  --         | ( "int" | "uint" | "int64_t" | "uint64_t" | "bool" ) "(" Expr ")"
  -- A name takes type arguments exactly where it can.
  pub data IsPrimary : List Token → ExprTree → List Token → Type 0 where
    of_number : {token : Token} {rest : List Token}
        → IsNumeral token
        → IsPrimary (token ∷ rest) (tree.Number token) rest
    of_true : {token : Token} {rest : List Token}
        → Is "true" token
        → IsPrimary (token ∷ rest) (tree.BooleanLiteral true token) rest
    of_false : {token : Token} {rest : List Token}
        → Is "false" token
        → IsPrimary (token ∷ rest) (tree.BooleanLiteral false token) rest
    of_itself : {token : Token} {rest : List Token}
        → Is "this" token
        → IsPrimary (token ∷ rest) (tree.Itself token) rest
    of_name : {token : Token} {rest : List Token}
        → IsName token → TakesNone rest
        → IsPrimary (token ∷ rest) (tree.Name token NoTypes) rest
    of_generic : {token : Token} {tokens rest : List Token} {args : TypeTrees}
        → IsName token → TakesTypeArgs tokens args rest
        → IsPrimary (token ∷ tokens) (tree.Name token args) rest
    of_functional_cast : {word : TypeWord} {token opening closing : Token}
        {tokens rest : List Token} {operand : ExprTree}
        → IsTrue (is_scalar word) → Is (word_text word) token
        → Is "(" opening → IsExpr tokens operand (closing ∷ rest) → Is ")" closing
        → IsPrimary (token ∷ opening ∷ tokens) (tree.FunctionalCast word token operand) rest
    of_own_type : {token : Token} {rest : List Token}
        → Is "This" token
        → IsPrimary (token ∷ rest) (tree.OwnType token) rest
    of_group : {opening closing : Token} {tokens rest : List Token} {inner : ExprTree}
        → Is "(" opening → IsExpr tokens inner (closing ∷ rest) → Is ")" closing
        → IsPrimary (opening ∷ tokens) (tree.Group opening inner) rest

  -- Postfix = Primary { "(" [ Expr { "," Expr } ] ")" | "[" Expr "]" | ( "." | "::" ) Name }
  pub data IsPostfix : List Token → ExprTree → List Token → Type 0 where
    of_primary : {tokens rest : List Token} {expr : ExprTree}
        → IsPrimary tokens expr rest
        → IsPostfix tokens expr rest
    of_call : {opening : Token} {tokens behind rest : List Token} {callee : ExprTree}
        {args : ExprTrees}
        → IsPostfix tokens callee (opening ∷ behind) → Is "(" opening → IsArguments behind args rest
        → IsPostfix tokens (tree.Call callee opening args) rest
    of_index : {opening closing : Token} {tokens behind rest : List Token} {base index : ExprTree}
        → IsPostfix tokens base (opening ∷ behind)
        → Is "[" opening → IsExpr behind index (closing ∷ rest) → Is "]" closing
        → IsPostfix tokens (tree.Index base opening index) rest
    of_member : {dot name : Token} {tokens rest : List Token} {base : ExprTree}
        → IsPostfix tokens base (dot ∷ name ∷ rest) → Is "." dot ⊎ Is "::" dot → IsName name
        → IsPostfix tokens (tree.Member base name) rest

  -- [ Expr { "," Expr } ] ")"
  pub data IsArguments : List Token → ExprTrees → List Token → Type 0 where
    no_arguments : {closing : Token} {rest : List Token}
        → Is ")" closing
        → IsArguments (closing ∷ rest) NoExprs rest
    some_arguments : {closing : Token} {tokens rest : List Token} {args : ExprTrees}
        → IsExprList tokens args (closing ∷ rest) → Is ")" closing
        → IsArguments tokens args rest

  -- Expr { "," Expr }
  pub data IsExprList : List Token → ExprTrees → List Token → Type 0 where
    last_expr : {tokens rest : List Token} {expr : ExprTree}
        → IsExpr tokens expr rest
        → IsExprList tokens (MoreExprs expr NoExprs) rest
    more_exprs : {comma : Token} {tokens behind rest : List Token} {expr : ExprTree}
        {exprs : ExprTrees}
        → IsExpr tokens expr (comma ∷ behind) → Is "," comma → IsExprList behind exprs rest
        → IsExprList tokens (MoreExprs expr exprs) rest

  -- Unary = ( "-" | "+" | "!" | "~" ) Unary
  --     | "(" ( "int" | "uint" | "int64_t" | "uint64_t" | "bool" ) ")" Unary | Postfix
  pub data IsUnary : List Token → ExprTree → List Token → Type 0 where
    of_operator : {operator : UnaryOperator} {token : Token} {tokens rest : List Token}
        {operand : ExprTree}
        → Is (unary_text operator) token → IsUnary tokens operand rest
        → IsUnary (token ∷ tokens) (tree.Unary operator token operand) rest
    of_cast : {word : TypeWord} {opening token closing : Token} {tokens rest : List Token}
        {operand : ExprTree}
        → Is "(" opening → IsTrue (is_scalar word) → Is (word_text word) token → Is ")" closing
        → IsUnary tokens operand rest
        → IsUnary (opening ∷ token ∷ closing ∷ tokens) (tree.Cast opening word token operand) rest
    of_postfix : {tokens rest : List Token} {expr : ExprTree}
        → IsPostfix tokens expr rest
        → IsUnary tokens expr rest

  -- The operators of a level or a tighter one. On its left an operator has those of its own level,
  -- or tighter ones; on its right it has tighter ones.
  pub data IsBinary : ℕ → List Token → ExprTree → List Token → Type 0 where
    of_unary : {least : ℕ} {tokens rest : List Token} {expr : ExprTree}
        → IsUnary tokens expr rest
        → IsBinary least tokens expr rest
    of_operands : {least : ℕ} {operator : Operator} {token : Token}
        {tokens after behind rest : List Token}
        {left right : ExprTree}
        → least ≤ level operator
        → IsBinary (level operator) tokens left (token ∷ after)
        → sign_at (token ∷ after) ≡ (codes (operator_text operator), behind)
        → IsBinary (suc (level operator)) behind right rest
        → IsBinary least tokens (tree.Binary operator token left right) rest

  -- Expr = Binary | Binary "?" Expr ":" Expr
  pub data IsExpr : List Token → ExprTree → List Token → Type 0 where
    of_binary : {tokens rest : List Token} {expr : ExprTree}
        → IsBinary 1 tokens expr rest
        → IsExpr tokens expr rest
    of_condition : {question colon : Token} {tokens behind after rest : List Token}
        {condition yes' no' : ExprTree}
        → IsBinary 1 tokens condition (question ∷ behind)
        → Is "?" question → IsExpr behind yes' (colon ∷ after) → Is ":" colon
        → IsExpr after no' rest
        → IsExpr tokens (tree.Conditional condition question yes' no') rest

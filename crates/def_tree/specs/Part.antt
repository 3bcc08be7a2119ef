-- Parts of token lists, which end where nothing goes on with them.
use Rattle.std.specs.Prelude.{◌≡◌, Bool, true, false, ◌&&◌, ◌||◌, List, [], ◌∷◌, codes}
use Rattle.std.specs.List.{list_any}
use Rattle.std.specs.Str.{bytes_eq}
use Prim.Native.String.{String}
use Rattle.def_token.specs.Lexical.{Token}
use Rattle.def_tree.specs.ExprTree.{ExprTree}
use Rattle.def_tree.specs.Expressions.{IsExpr}
use Rattle.def_tree.specs.Operator.{Operator, operators, operator_text, sign_at}
use Rattle.def_tree.specs.Statements.{IsStmt, begins_with}
use Rattle.def_tree.specs.StmtTree.{StmtTree}
use Rattle.def_tree.specs.TypeTree.{TypeTree, Named, NoTypes}
use Rattle.def_tree.specs.Types.{IsType}

-- a type that is a name alone
abbrev pub is_name_alone : TypeTree → Bool
is_name_alone (Named first NoTypes []) = true
is_name_alone _ = false

-- A type goes on with these tokens: behind it with a dot, behind a name alone with type arguments
-- too.
abbrev pub type_goes_on : TypeTree → List Token → Bool
type_goes_on type tokens = begins_with "." tokens || (is_name_alone type && begins_with "<" tokens)

-- the signs other than operators with which an expression goes on
abbrev pub signs_behind : List String
signs_behind = "?" ∷ "(" ∷ "[" ∷ "." ∷ "::" ∷ []

-- tokens begin with an operator that has two operands
abbrev pub begins_with_operator : List Token → Bool
begins_with_operator tokens =
    list_any (λ (operator : Operator). bytes_eq (sign_at tokens).0 (codes (operator_text operator)))
    operators

-- an expression goes on with these tokens
abbrev pub expr_goes_on : List Token → Bool
expr_goes_on tokens =
    begins_with_operator tokens
    || list_any (λ (sign : String). begins_with sign tokens) signs_behind

-- the tokens begin with a type, and nothing goes on with it
pub record IsTypePart (tokens : List Token) (type : TypeTree) (rest : List Token) : Type 0 where
  pub tree : IsType tokens type rest
  pub ended : type_goes_on type rest ≡ false

-- the tokens begin with an expression, and nothing goes on with it
pub record IsExprPart (tokens : List Token) (expr : ExprTree) (rest : List Token) : Type 0 where
  pub tree : IsExpr tokens expr rest
  pub ended : expr_goes_on rest ≡ false

-- The tokens begin with a statement. An `else` that could go on with it goes on with it by the
-- grammar.
abbrev pub IsStmtPart : List Token → StmtTree → List Token → Type 0
IsStmtPart tokens stmt rest = IsStmt tokens stmt rest

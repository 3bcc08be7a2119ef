-- What is so of each token of a text is so of each token behind a type or an expression.
use Rattle.std.proofs.Common.{ℕ, List, [], ◌∷◌, Bool, true, false, codes, subst}
use Rattle.std.specs.Prelude.{if◌then◌else◌}
use Rattle.std.specs.List.{AllByRecursion}
use Rattle.def_token.specs.Lexical.{Token}
use Rattle.def_tree.specs.ExprTree.{ExprTree, ExprTrees}
use Rattle.def_tree.specs.Expressions.{IsPrimary, of_number, of_true, of_false, of_itself, of_name, of_generic, of_functional_cast, of_own_type, of_group, IsPostfix, of_primary, of_call, of_index, of_member, IsArguments, no_arguments, some_arguments, IsExprList, last_expr, more_exprs, IsUnary, of_operator, of_cast, of_postfix, IsBinary, of_unary, of_operands, IsExpr, of_binary, of_condition}
use Rattle.def_tree.specs.Operator.{SignAt, after_one, after_two, joins, sign_at, sign_text}
use Rattle.def_tree.specs.Symbol.{is_sign, symbol}
use Rattle.def_tree.specs.TypeTree.{TypeTree, TypeTrees}
use Rattle.def_tree.specs.Types.{IsPath, ended, dotted, IsType, of_word, of_name as type_of_name, of_generic as type_of_generic, IsTypeArgs, type_args, IsTypeList, last_type, more_types}

module _ (IsSo : Token → Type 0) where
  abbrev Each : List Token → Type 0
  Each tokens = AllByRecursion IsSo tokens

  path_behind : {tokens path rest : List Token} → IsPath tokens path rest → Each tokens → Each rest
  path_behind ended each = each
  path_behind (dotted d n p) each = path_behind p each.1.1

  mutual
    pub type_behind : {tokens rest : List Token} {type : TypeTree} → IsType tokens type rest → Each tokens → Each rest
    type_behind (of_word h p) each = path_behind p each.1
    type_behind (type_of_name h p) each = path_behind p each.1
    type_behind (type_of_generic h a p) each = path_behind p (args_behind a each.1)

    args_behind : {tokens rest : List Token} {args : TypeTrees} → IsTypeArgs tokens args rest → Each tokens → Each rest
    args_behind (type_args h l c) each = (types_behind l each.1).1

    types_behind : {tokens rest : List Token} {types : TypeTrees} → IsTypeList tokens types rest → Each tokens → Each rest
    types_behind (last_type t) each = type_behind t each
    types_behind (more_types t c l) each = types_behind l (type_behind t each).1

  abbrev EachBehind : SignAt → Type 0
  EachBehind found = Each found.1

  two_behind : (b : Bool) (third : Token) (tokens : List Token) → Each (third ∷ tokens)
      → EachBehind (if b then (codes ">>=", tokens) else (codes ">>", third ∷ tokens))
  two_behind true third tokens each = each.1
  two_behind false third tokens each = each

  after_two_behind : (second : Token) (tokens : List Token) → Each tokens → EachBehind (after_two second tokens)
  after_two_behind second [] each = each
  after_two_behind second (third ∷ tokens) each = two_behind (joins second "=" third) third tokens each

  one_behind : (shifts equals : Bool) (second : Token) (tokens : List Token) → Each (second ∷ tokens)
      → EachBehind (
      if shifts then after_two second tokens
      else (if equals then (codes ">=", tokens) else (codes ">", second ∷ tokens))
      )
  one_behind true equals second tokens each = after_two_behind second tokens each.1
  one_behind false true second tokens each = each.1
  one_behind false false second tokens each = each

  after_one_behind : (first : Token) (tokens : List Token) → Each tokens → EachBehind (after_one first tokens)
  after_one_behind first [] each = each
  after_one_behind first (second ∷ tokens) each =
      one_behind (joins first ">" second) (joins first "=" second) second tokens each

  sign_behind_by : (b : Bool) (first : Token) (tokens : List Token) → Each tokens
      → EachBehind (if b then after_one first tokens else (sign_text (symbol first), tokens))
  sign_behind_by true first tokens each = after_one_behind first tokens each
  sign_behind_by false first tokens each = each

  -- behind the sign of an operator
  sign_behind : (first : Token) (tokens : List Token) → Each tokens → EachBehind (sign_at (first ∷ tokens))
  sign_behind first tokens each = sign_behind_by (is_sign ">" (symbol first)) first tokens each

  mutual
    primary_behind : {tokens rest : List Token} {e : ExprTree} → IsPrimary tokens e rest → Each tokens → Each rest
    primary_behind (of_number h) each = each.1
    primary_behind (of_true h) each = each.1
    primary_behind (of_false h) each = each.1
    primary_behind (of_itself h) each = each.1
    primary_behind (of_name h n) each = each.1
    primary_behind (of_generic h n) each = args_behind n.arguments each.1
    primary_behind (of_functional_cast s h o inner c) each = (expr_behind inner each.1.1).1
    primary_behind (of_own_type h) each = each.1
    primary_behind (of_group h inner c) each = (expr_behind inner each.1).1

    postfix_behind : {tokens rest : List Token} {e : ExprTree} → IsPostfix tokens e rest → Each tokens → Each rest
    postfix_behind (of_primary p) each = primary_behind p each
    postfix_behind (of_call p h a) each = arguments_behind a (postfix_behind p each).1
    postfix_behind (of_index p h inner c) each = (expr_behind inner (postfix_behind p each).1).1
    postfix_behind (of_member p d n) each = (postfix_behind p each).1.1

    arguments_behind : {tokens rest : List Token} {args : ExprTrees} → IsArguments tokens args rest → Each tokens
        → Each rest
    arguments_behind (no_arguments h) each = each.1
    arguments_behind (some_arguments l h) each = (exprs_behind l each).1

    exprs_behind : {tokens rest : List Token} {exprs : ExprTrees} → IsExprList tokens exprs rest → Each tokens → Each rest
    exprs_behind (last_expr p) each = expr_behind p each
    exprs_behind (more_exprs p c l) each = exprs_behind l (expr_behind p each).1

    unary_behind : {tokens rest : List Token} {e : ExprTree} → IsUnary tokens e rest → Each tokens → Each rest
    unary_behind (of_operator h u) each = unary_behind u each.1
    unary_behind (of_cast o s h c u) each = unary_behind u each.1.1.1
    unary_behind (of_postfix p) each = postfix_behind p each

    binary_behind : {least : ℕ} {tokens rest : List Token} {e : ExprTree} → IsBinary least tokens e rest → Each tokens
        → Each rest
    binary_behind (of_unary u) each = unary_behind u each
    binary_behind (of_operands {token = token} {after = after} le l s r) each =
        binary_behind r (subst EachBehind s (sign_behind token after (binary_behind l each).1))

    pub expr_behind : {tokens rest : List Token} {e : ExprTree} → IsExpr tokens e rest → Each tokens → Each rest
    expr_behind (of_binary b) each = binary_behind b each
    expr_behind (of_condition b q x c y) each = expr_behind y (expr_behind x (binary_behind b each).1).1

-- Each tree has an entry for each of its tokens.
use Rattle.std.proofs.Common.{◌≡◌, ℕ, suc, ◌+◌, List, [], ◌∷◌, ◌++◌, length, refl, ap, ◌∙◌, codes, arith, length-append}
use Rattle.std.specs.Prelude.{Bool, true, false, ◌||◌, ◌==◌, if◌then◌else◌, replicate}
use Rattle.std.specs.Str.{bytes_eq}
use Rattle.std.proofs.lemmas.List.{length-replicate}
use Rattle.def_token.specs.Lexical.{Token}
use Rattle.def_tree.specs.ExprTree.{ExprTree, ExprTrees}
use Rattle.def_tree.specs.Expressions.{IsPrimary, of_number, of_true, of_false, of_itself, of_name, of_generic, of_functional_cast, of_own_type, of_group, IsPostfix, of_primary, of_call, of_index, of_member, IsArguments, no_arguments, some_arguments, IsExprList, last_expr, more_exprs, IsUnary, of_operator, of_cast, of_postfix, IsBinary, of_unary, of_operands, IsExpr, of_binary, of_condition}
use Rattle.def_tree.specs.Limits.{Nesting, in_bracket, in_unary, plain, opens, path_entries, type_entries, args_entries, more_types_entries, operator_tokens, expr_entries, exprs_entries, more_exprs_entries}
use Rattle.def_tree.specs.Operator.{Operator, operator_text, Or, And, BitOr, BitXor, BitAnd, Equal, NotEqual, Less, LessEqual, Greater, GreaterEqual, ShiftLeft, ShiftRight, Add, Subtract, Multiply, Divide, Remainder, SignAt, sign_at, sign_text, after_one, after_two, joins}
use Rattle.def_tree.specs.Symbol.{Symbol, Name, Number, Text, End, Sign, symbol, is_sign}
use Rattle.def_tree.specs.Types.{IsPath, ended, dotted, IsType, of_word, of_name as type_of_name, of_generic as type_of_generic, IsTypeArgs, type_args, IsTypeList, last_type, more_types}
use Rattle.law_tree.proofs.OperatorSigns.{sign_by, written}
use Rattle.def_tree.specs.TypeTree.{TypeTree, TypeTrees}

path_covered : {tokens path rest : List Token} → IsPath tokens path rest → length tokens ≡ length (path_entries path) + length rest
path_covered ended = omega arith
path_covered (dotted d n p) = omega (arith, path_covered p)

mutual
  pub type_covered : {tokens rest : List Token} {type : TypeTree} (n : ℕ) → IsType tokens type rest → length tokens ≡ length (type_entries n type) + length rest
  type_covered n (of_word h p) = omega (arith, path_covered p)
  type_covered n (type_of_name h p) = omega (arith, path_covered p)
  type_covered n (type_of_generic {path = path} {args = args} h a p) =
      omega (arith, path_covered p, args_covered (suc n) a, length-append (args_entries (suc n) args) (path_entries path))

  args_covered : {tokens rest : List Token} {args : TypeTrees} (n : ℕ) → IsTypeArgs tokens args rest → length tokens ≡ length (args_entries n args) + length rest
  args_covered n (type_args h l c) = omega (arith, list_covered n l)

  -- a list with the mark before it and the mark behind it
  list_covered : {tokens rest : List Token} {types : TypeTrees} (n : ℕ) → IsTypeList tokens types rest → length tokens + 2 ≡ length (args_entries n types) + length rest
  list_covered n (last_type {type = type} t) = omega (arith, type_covered n t, length-append (type_entries n type) (plain ∷ []))
  list_covered n (more_types {type = type} {types = types} t c l) =
      omega (arith, type_covered n t, more_covered n l, length-append (type_entries n type) (more_types_entries n types))

  more_covered : {tokens rest : List Token} {types : TypeTrees} (n : ℕ) → IsTypeList tokens types rest → length tokens + 2 ≡ length (more_types_entries n types) + length rest
  more_covered n (last_type {type = type} t) = omega (arith, type_covered n t, length-append (type_entries n type) (plain ∷ []))
  more_covered n (more_types {type = type} {types = types} t c l) =
      omega (arith, type_covered n t, more_covered n l, length-append (type_entries n type) (more_types_entries n types))

-- how many tokens a sign has
abbrev pub sign_tokens : List ℕ → ℕ
sign_tokens text = if bytes_eq text (codes ">>=") then 3 else (if bytes_eq text (codes ">>") || bytes_eq text (codes ">=") then 2 else 1)

-- so many tokens are a sign and those behind it
abbrev pub AreSigned : ℕ → SignAt → Type 0
AreSigned n found = n ≡ sign_tokens found.0 + length found.1

two_covered : (b : Bool) (third : Token) (tokens : List Token)
    → AreSigned (suc (suc (length (third ∷ tokens)))) (if b then (codes ">>=", tokens) else (codes ">>", third ∷ tokens))
two_covered true third tokens = omega arith
two_covered false third tokens = omega arith

after_two_covered : (second : Token) (tokens : List Token) → AreSigned (suc (suc (length tokens))) (after_two second tokens)
after_two_covered second [] = omega arith
after_two_covered second (third ∷ tokens) = two_covered (joins second "=" third) third tokens

one_covered : (shifts equals : Bool) (second : Token) (tokens : List Token)
    → AreSigned (suc (length (second ∷ tokens))) (if shifts then after_two second tokens else (if equals then (codes ">=", tokens) else (codes ">", second ∷ tokens)))
one_covered true equals second tokens = after_two_covered second tokens
one_covered false true second tokens = omega arith
one_covered false false second tokens = omega arith

after_one_covered : (first : Token) (tokens : List Token) → AreSigned (suc (length tokens)) (after_one first tokens)
after_one_covered first [] = omega arith
after_one_covered first (second ∷ tokens) = one_covered (joins first ">" second) (joins first "=" second) second tokens

plain_tokens_by : (greater : Bool) (b : ℕ) (text : List ℕ) → (b == 62) ≡ greater → sign_tokens (if greater then [] else b ∷ text) ≡ 1
plain_tokens_by true b text h = refl
plain_tokens_by false b text h = rw h refl

pub plain_tokens : (s : Symbol) → sign_tokens (sign_text s) ≡ 1
plain_tokens Name = refl
plain_tokens (Number wide) = refl
plain_tokens Text = refl
plain_tokens End = refl
plain_tokens (Sign []) = refl
plain_tokens (Sign (b ∷ text)) = plain_tokens_by (b == 62) b text refl

sign_covered_by : (b : Bool) (token : Token) (tokens : List Token)
    → suc (length tokens) ≡ sign_tokens (sign_by b token tokens).0 + length (sign_by b token tokens).1
sign_covered_by true token tokens = after_one_covered token tokens
sign_covered_by false token tokens = omega (arith, plain_tokens (symbol token))

pub sign_covered : (token : Token) (tokens : List Token) → length (token ∷ tokens) ≡ sign_tokens (sign_at (token ∷ tokens)).0 + length (sign_at (token ∷ tokens)).1
sign_covered token tokens = sign_covered_by (is_sign ">" (symbol token)) token tokens

pub of_operator_text : (operator : Operator) → sign_tokens (codes (operator_text operator)) ≡ operator_tokens operator
of_operator_text Or = refl
of_operator_text And = refl
of_operator_text BitOr = refl
of_operator_text BitXor = refl
of_operator_text BitAnd = refl
of_operator_text Equal = refl
of_operator_text NotEqual = refl
of_operator_text Less = refl
of_operator_text LessEqual = refl
of_operator_text Greater = refl
of_operator_text GreaterEqual = refl
of_operator_text ShiftLeft = refl
of_operator_text ShiftRight = refl
of_operator_text Add = refl
of_operator_text Subtract = refl
of_operator_text Multiply = refl
of_operator_text Divide = refl
of_operator_text Remainder = refl

-- the sign of an operator has as many tokens as it is said to have
pub operator_covered : (operator : Operator) (tokens rest : List Token) → sign_at tokens ≡ (codes (operator_text operator), rest)
    → length tokens ≡ operator_tokens operator + length rest
operator_covered operator [] rest h = absurd (written operator (ap (λ (q : SignAt). q.0) h))
operator_covered operator (token ∷ tokens) rest h =
    sign_covered token tokens ∙ ap (λ (q : SignAt). sign_tokens q.0 + length q.1) h ∙ ap (λ n. n + length rest) (of_operator_text operator)

mutual
  primary_covered : {tokens rest : List Token} {e : ExprTree} (around : Nesting) → IsPrimary tokens e rest → length tokens ≡ length (expr_entries around e) + length rest
  primary_covered around (of_number h) = omega arith
  primary_covered around (of_true h) = omega arith
  primary_covered around (of_false h) = omega arith
  primary_covered around (of_itself h) = omega arith
  primary_covered around (of_name h n) = omega arith
  primary_covered around (of_generic h n) = omega (arith, args_covered around.types n.arguments)
  primary_covered around (of_functional_cast {operand = e} s h b inner c) =
      omega (arith, expr_covered (in_bracket around) inner, length-append (expr_entries (in_bracket around) e) (plain ∷ []))
  primary_covered around (of_own_type h) = omega arith
  primary_covered around (of_group {inner = e} h inner c) =
      omega (arith, expr_covered (in_bracket around) inner, length-append (expr_entries (in_bracket around) e) (plain ∷ []))

  postfix_covered : {tokens rest : List Token} {e : ExprTree} (around : Nesting) → IsPostfix tokens e rest → length tokens ≡ length (expr_entries around e) + length rest
  postfix_covered around (of_primary p) = primary_covered around p
  postfix_covered around (of_call {callee = f} {args = args} p h a) =
      let inside = in_bracket around in
      omega (
        arith,
        postfix_covered around p,
        arguments_covered inside a,
        length-append (expr_entries around f) (opens inside.brackets ∷ (exprs_entries inside args ++ plain ∷ [])),
        length-append (exprs_entries inside args) (plain ∷ []),
      )
  postfix_covered around (of_index {base = f} {index = e} p h inner c) =
      let inside = in_bracket around in
      omega (
        arith,
        postfix_covered around p,
        expr_covered inside inner,
        length-append (expr_entries around f) (opens inside.brackets ∷ (expr_entries inside e ++ plain ∷ [])),
        length-append (expr_entries inside e) (plain ∷ []),
      )
  postfix_covered around (of_member {base = f} p d n) =
      omega (arith, postfix_covered around p, length-append (expr_entries around f) (plain ∷ plain ∷ []))

  -- arguments with the bracket behind them
  arguments_covered : {tokens rest : List Token} {args : ExprTrees} (around : Nesting) → IsArguments tokens args rest → length tokens ≡ length (exprs_entries around args) + 1 + length rest
  arguments_covered around (no_arguments h) = omega arith
  arguments_covered around (some_arguments l h) = omega (arith, exprs_covered around l)

  exprs_covered : {tokens rest : List Token} {exprs : ExprTrees} (around : Nesting) → IsExprList tokens exprs rest → length tokens ≡ length (exprs_entries around exprs) + length rest
  exprs_covered around (last_expr {expr = e} p) = omega (arith, expr_covered around p, length-append (expr_entries around e) [])
  exprs_covered around (more_exprs {expr = e} {exprs = es} p c l) =
      omega (arith, expr_covered around p, more_exprs_covered around l, length-append (expr_entries around e) (more_exprs_entries around es))

  -- expressions with a comma before each
  more_exprs_covered : {tokens rest : List Token} {exprs : ExprTrees} (around : Nesting) → IsExprList tokens exprs rest → length tokens + 1 ≡ length (more_exprs_entries around exprs) + length rest
  more_exprs_covered around (last_expr {expr = e} p) = omega (arith, expr_covered around p, length-append (expr_entries around e) [])
  more_exprs_covered around (more_exprs {expr = e} {exprs = es} p c l) =
      omega (arith, expr_covered around p, more_exprs_covered around l, length-append (expr_entries around e) (more_exprs_entries around es))

  unary_covered : {tokens rest : List Token} {e : ExprTree} (around : Nesting) → IsUnary tokens e rest → length tokens ≡ length (expr_entries around e) + length rest
  unary_covered around (of_operator h u) = omega (arith, unary_covered (in_unary around) u)
  unary_covered around (of_cast h s i c u) = omega (arith, unary_covered around u)
  unary_covered around (of_postfix p) = postfix_covered around p

  binary_covered : {least : ℕ} {tokens rest : List Token} {e : ExprTree} (around : Nesting) → IsBinary least tokens e rest → length tokens ≡ length (expr_entries around e) + length rest
  binary_covered around (of_unary u) = unary_covered around u
  binary_covered around (of_operands {operator = operator} {token = t} {after = after} {behind = behind} {left = left} {right = right} le l s r) =
      omega (
        arith,
        binary_covered around l,
        operator_covered operator (t ∷ after) behind s,
        binary_covered around r,
        length-append (expr_entries around left) (replicate (operator_tokens operator) plain ++ expr_entries around right),
        length-append (replicate (operator_tokens operator) plain) (expr_entries around right),
        length-replicate (operator_tokens operator) plain,
      )

  pub expr_covered : {tokens rest : List Token} {e : ExprTree} (around : Nesting) → IsExpr tokens e rest → length tokens ≡ length (expr_entries around e) + length rest
  expr_covered around (of_binary b) = binary_covered around b
  expr_covered around (of_condition {condition = c} {yes' = y} {no' = n} b q x colon z) =
      omega (
        arith,
        binary_covered around b,
        expr_covered around x,
        expr_covered around z,
        length-append (expr_entries around c) (plain ∷ (expr_entries around y ++ plain ∷ expr_entries around n)),
        length-append (expr_entries around y) (plain ∷ expr_entries around n),
      )

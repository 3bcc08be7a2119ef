-- The tokens of types and expressions: those of types are names, words and some marks, and in those of expressions `=` stands behind `>` alone.
use Rattle.std.proofs.Common.{◌≡◌, ⊎_elim, ℕ, Bool, true, false, List, [], ◌∷◌, refl, sym, ap, subst, ◌∙◌, codes}
use Rattle.std.specs.Prelude.{None, ◌||◌}
use Rattle.std.proofs.lemmas.Bool.{false≢true}
use Rattle.def_token.specs.Lexical.{Token}
use Rattle.def_tree.specs.ExprTree.{ExprTree, ExprTrees}
use Rattle.def_tree.specs.Expressions.{TakesTypeArgs, IsPrimary, of_number, of_true, of_false, of_itself, of_name, of_generic, of_functional_cast, of_own_type, of_group, IsPostfix, of_primary, of_call, of_index, of_member, IsArguments, no_arguments, some_arguments, IsExprList, last_expr, more_exprs, IsUnary, of_operator, of_cast, of_postfix, IsBinary, of_unary, of_operands, IsExpr, of_binary, of_condition}
use Rattle.def_tree.specs.Operator.{Operator, operators, operator_text, UnaryOperator, Minus, Plus, Not, Complement, unary_text, sign_at}
use Rattle.def_tree.specs.Symbol.{Symbol, Sign, symbol, is_sign, Is}
use Rattle.def_tree.specs.Types.{IsPath, ended, dotted, IsType, of_word, of_name as type_of_name, of_generic as type_of_generic, IsTypeArgs, type_args, IsTypeList, last_type, more_types}
use Rattle.def_tree.specs.TypeTree.{TypeWord, word_text, TypeTree, TypeTrees}
use Rattle.law_tree.proofs.Heads.{begins_type}
use Rattle.law_tree.proofs.Symbols.{is_sign-true}
use Rattle.def_reading.specs.Machine.{written}
use Rattle.law_machine.proofs.MachineSigns.{operator_is}
use Rattle.law_machine.proofs.SignParts.{SignParts, one_token, greater, greater_equal, shift, sign_parts}
use Rattle.law_tree.proofs.Words.{every_word}

-- the symbol may stand in a type
abbrev pub in_type : Symbol → Bool
in_type s = (begins_type s || is_sign "." s) || ((is_sign "," s || is_sign "<" s) || is_sign ">" s)

-- the tokens before the others are such as types have
pub data Typed : List Token → List Token → Type 0 where
  here : {ts : List Token} → Typed ts ts
  typed : {t : Token} {ts others : List Token} → in_type (symbol t) ≡ true → Typed ts others → Typed (t ∷ ts) others

pub typed_then : {ts mid others : List Token} → Typed ts mid → Typed mid others → Typed ts others
typed_then here k = k
typed_then (typed h s) k = typed h (typed_then s k)

word_in_type : (word : TypeWord) → in_type (Sign (codes (word_text word))) ≡ true
word_in_type = every_word (λ word. in_type (Sign (codes (word_text word))) ≡ true) (refl, (refl, (refl, (refl, (refl, (refl, (refl, (refl, tt))))))))

pub path_typed : {tokens path rest : List Token} → IsPath tokens path rest → Typed tokens rest
path_typed ended = here
path_typed (dotted d n p) = typed (ap in_type d) (typed (ap in_type n) (path_typed p))

mutual
  pub type_typed : {tokens rest : List Token} {type : TypeTree} → IsType tokens type rest → Typed tokens rest
  type_typed (of_word {word = word} h p) = typed (ap in_type h ∙ word_in_type word) (path_typed p)
  type_typed (type_of_name h p) = typed (ap in_type h) (path_typed p)
  type_typed (type_of_generic h a p) = typed (ap in_type h) (typed_then (args_typed a) (path_typed p))

  pub args_typed : {tokens rest : List Token} {args : TypeTrees} → IsTypeArgs tokens args rest → Typed tokens rest
  args_typed (type_args h l c) = typed (ap in_type h) (typed_then (list_typed l) (typed (ap in_type c) here))

  pub list_typed : {tokens rest : List Token} {types : TypeTrees} → IsTypeList tokens types rest → Typed tokens rest
  list_typed (last_type t) = type_typed t
  list_typed (more_types t c l) = typed_then (type_typed t) (typed (ap in_type c) (list_typed l))

-- in the tokens before the others `=` stands behind `>` alone
pub data Spans : List Token → List Token → Type 0 where
  none : {ts : List Token} → Spans ts ts
  one : {t : Token} {ts others : List Token} → is_sign "=" (symbol t) ≡ false → Spans ts others → Spans (t ∷ ts) others
  joined : {t p : Token} {ts others : List Token} → Is ">" t → Spans ts others → Spans (t ∷ p ∷ ts) others

pub spans_then : {ts mid others : List Token} → Spans ts mid → Spans mid others → Spans ts others
spans_then none k = k
spans_then (one h s) k = one h (spans_then s k)
spans_then (joined h s) k = joined h (spans_then s k)

-- what stands in a type is no `=`
no_equals_by : (b : Bool) (s : Symbol) → is_sign "=" s ≡ b → in_type s ≡ true → b ≡ false
no_equals_by true s is h = absurd (false≢true (sym (ap in_type (is_sign-true "=" s is)) ∙ h))
no_equals_by false s is h = refl

-- the tokens of types
typed_spans : {ts others : List Token} → Typed ts others → Spans ts others
typed_spans here = none
typed_spans (typed {t = t} h k) = one (no_equals_by (is_sign "=" (symbol t)) (symbol t) refl h) (typed_spans k)

takes_spans : {tokens rest : List Token} {args : TypeTrees} → TakesTypeArgs tokens args rest → Spans tokens rest
takes_spans t = typed_spans (args_typed t.arguments)

word_other : (word : TypeWord) → is_sign "=" (Sign (codes (word_text word))) ≡ false
word_other = every_word (λ word. is_sign "=" (Sign (codes (word_text word))) ≡ false) (refl, (refl, (refl, (refl, (refl, (refl, (refl, (refl, tt))))))))

unary_other : (operator : UnaryOperator) → is_sign "=" (Sign (codes (unary_text operator))) ≡ false
unary_other Minus = refl
unary_other Plus = refl
unary_other Not = refl
unary_other Complement = refl

-- no operator begins with `=`
operator_other : (b : Bool) (t : Token) (op : Operator) → is_sign "=" (symbol t) ≡ b → sign_at (t ∷ []) ≡ (codes (operator_text op), []) → b ≡ false
operator_other true t op is h =
    let equals : Is "=" t = is_sign-true "=" (symbol t) is in
    let found : written operator_text operators (sign_at (t ∷ [])).0 ≡ None = rw equals refl in
    let some = operator_is t [] [] op h in
    absurd (cc)
operator_other false t op is h = refl

operator_spans : {t : Token} {after behind others : List Token} {op : Operator} → SignParts t after op behind → Spans behind others → Spans (t ∷ after) others
operator_spans {t = t} {others = others} {op = op} (one_token g no_end each is) k =
    one (operator_other (is_sign "=" (symbol t)) t op refl (each [])) (subst (λ ts. Spans ts others) is k)
operator_spans {others = others} (greater g o is apart) k = one (ap (is_sign "=") g) (subst (λ ts. Spans ts others) is k)
operator_spans {t = t} {others = others} (greater_equal g p is j l o) k = subst (λ ts. Spans (t ∷ ts) others) (sym is) (joined g k)
operator_spans {t = t} {others = others} (shift g p is j l o) k = subst (λ ts. Spans (t ∷ ts) others) (sym is) (joined g k)

mutual
  primary_spans : {tokens rest : List Token} {e : ExprTree} → IsPrimary tokens e rest → Spans tokens rest
  primary_spans (of_number h) = one (ap (is_sign "=") h) none
  primary_spans (of_true h) = one (ap (is_sign "=") h) none
  primary_spans (of_false h) = one (ap (is_sign "=") h) none
  primary_spans (of_itself h) = one (ap (is_sign "=") h) none
  primary_spans (of_own_type h) = one (ap (is_sign "=") h) none
  primary_spans (of_name h n) = one (ap (is_sign "=") h) none
  primary_spans (of_generic h g) = one (ap (is_sign "=") h) (takes_spans g)
  primary_spans (of_functional_cast {word = word} s h o e c) =
      one (ap (is_sign "=") h ∙ word_other word) (one (ap (is_sign "=") o) (spans_then (expr_spans e) (one (ap (is_sign "=") c) none)))
  primary_spans (of_group o e c) = one (ap (is_sign "=") o) (spans_then (expr_spans e) (one (ap (is_sign "=") c) none))

  postfix_spans : {tokens rest : List Token} {e : ExprTree} → IsPostfix tokens e rest → Spans tokens rest
  postfix_spans (of_primary p) = primary_spans p
  postfix_spans (of_call f o a) = spans_then (postfix_spans f) (one (ap (is_sign "=") o) (arguments_spans a))
  postfix_spans (of_index f o e c) = spans_then (postfix_spans f) (one (ap (is_sign "=") o) (spans_then (expr_spans e) (one (ap (is_sign "=") c) none)))
  postfix_spans (of_member {dot = dot} f d n) =
      spans_then (postfix_spans f)
      (one (⊎_elim (λ (h : Is "." dot). ap (is_sign "=") h) (λ (h : Is "::" dot). ap (is_sign "=") h) d) (one (ap (is_sign "=") n) none))

  arguments_spans : {tokens rest : List Token} {args : ExprTrees} → IsArguments tokens args rest → Spans tokens rest
  arguments_spans (no_arguments c) = one (ap (is_sign "=") c) none
  arguments_spans (some_arguments l c) = spans_then (exprs_spans l) (one (ap (is_sign "=") c) none)

  pub exprs_spans : {tokens rest : List Token} {exprs : ExprTrees} → IsExprList tokens exprs rest → Spans tokens rest
  exprs_spans (last_expr e) = expr_spans e
  exprs_spans (more_exprs e c l) = spans_then (expr_spans e) (one (ap (is_sign "=") c) (exprs_spans l))

  unary_spans : {tokens rest : List Token} {e : ExprTree} → IsUnary tokens e rest → Spans tokens rest
  unary_spans (of_operator {operator = operator} h u) = one (ap (is_sign "=") h ∙ unary_other operator) (unary_spans u)
  unary_spans (of_cast {word = word} o s h c u) =
      one (ap (is_sign "=") o) (one (ap (is_sign "=") h ∙ word_other word) (one (ap (is_sign "=") c) (unary_spans u)))
  unary_spans (of_postfix p) = postfix_spans p

  binary_spans : {least : ℕ} {tokens rest : List Token} {e : ExprTree} → IsBinary least tokens e rest → Spans tokens rest
  binary_spans (of_unary u) = unary_spans u
  binary_spans (of_operands {operator = operator} {token = t} {after = after} {behind = behind} le l sign r) =
      spans_then (binary_spans l) (operator_spans (sign_parts t after operator behind sign) (binary_spans r))

  pub expr_spans : {tokens rest : List Token} {e : ExprTree} → IsExpr tokens e rest → Spans tokens rest
  expr_spans (of_binary b) = binary_spans b
  expr_spans (of_condition b q x c y) =
      spans_then (binary_spans b) (one (ap (is_sign "=") q) (spans_then (expr_spans x) (one (ap (is_sign "=") c) (expr_spans y))))

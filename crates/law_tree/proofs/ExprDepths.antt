-- The depths along the tokens of an expression.
use Rattle.std.proofs.Common.{◌≡◌, ◌⊎◌, inl, inr, ℕ, suc, Bool, true, false, List, [], ◌∷◌, ◌++◌, refl, sym, ap, ◌∙◌, subst, codes}
use Rattle.std.specs.Prelude.{◌&&◌, ◌==◌, if◌then◌else◌, replicate}
use Rattle.std.proofs.lemmas.Bool.{false≢true, eqb-true}
use Prim.Native.String.{String}
use Rattle.def_token.specs.Lexical.{Token}
use Rattle.def_tree.specs.ExprTree.{ExprTree, ExprTrees}
use Rattle.def_tree.specs.Expressions.{IsPrimary, of_number, of_true, of_false, of_itself, of_name, of_generic, of_functional_cast, of_own_type, of_group, IsPostfix, of_primary, of_call, of_index, of_member, IsArguments, no_arguments, some_arguments, IsExprList, last_expr, more_exprs, IsUnary, of_operator, of_cast, of_postfix, IsBinary, of_unary, of_operands, IsExpr, of_binary, of_condition}
use Rattle.def_tree.specs.Limits.{Entry, Nesting, in_bracket, in_unary, plain, opens, path_entries, type_entries, args_entries, more_types_entries, operator_tokens, expr_entries, exprs_entries, more_exprs_entries}
use Rattle.def_tree.specs.Operator.{Operator, operator_text, Or, And, BitOr, BitXor, BitAnd, Equal, NotEqual, Less, LessEqual, Greater, GreaterEqual, ShiftLeft, ShiftRight, Add, Subtract, Multiply, Divide, Remainder, UnaryOperator, unary_text, Minus, Plus, Not, Complement, SignAt, sign_at, sign_text, after_one, after_two, joins}
use Rattle.def_tree.specs.Symbol.{Symbol, Name, Number, Text, End, Sign, symbol, is_sign, Is, touches}
use Rattle.def_tree.specs.Types.{IsPath, ended, dotted, IsType, of_word, of_name as type_of_name, of_generic as type_of_generic, IsTypeArgs, type_args, IsTypeList, last_type, more_types}
use Rattle.def_tree.specs.TypeTree.{TypeTree, TypeTrees, TypeWord, word_text}
use Rattle.law_tree.proofs.Covered.{sign_tokens, plain_tokens, of_operator_text}
use Rattle.law_tree.proofs.Depths.{Runs, here, passes, enters, leaves, runs_on, turn, stays, opens_round, closes_round}
use Rattle.law_tree.proofs.OperatorSigns.{sign_by}
use Rattle.law_tree.proofs.Symbols.{is_sign-true}
use Rattle.law_tree.proofs.Words.{every_word}

-- words of types open and close nothing
pub word_stays : (word : TypeWord) → turn (Sign (codes (word_text word))) ≡ stays
word_stays = every_word (λ word. turn (Sign (codes (word_text word))) ≡ stays) (refl, (refl, (refl, (refl, (refl, (refl, (refl, (refl, tt))))))))

unary_stays : (operator : UnaryOperator) → turn (Sign (codes (unary_text operator))) ≡ stays
unary_stays Minus = refl
unary_stays Plus = refl
unary_stays Not = refl
unary_stays Complement = refl

operator_stays : (operator : Operator) → turn (Sign (codes (operator_text operator))) ≡ stays
operator_stays Or = refl
operator_stays And = refl
operator_stays BitOr = refl
operator_stays BitXor = refl
operator_stays BitAnd = refl
operator_stays Equal = refl
operator_stays NotEqual = refl
operator_stays Less = refl
operator_stays LessEqual = refl
operator_stays Greater = refl
operator_stays GreaterEqual = refl
operator_stays ShiftLeft = refl
operator_stays ShiftRight = refl
operator_stays Add = refl
operator_stays Subtract = refl
operator_stays Multiply = refl
operator_stays Divide = refl
operator_stays Remainder = refl

right_true : (x y : Bool) → (x && y) ≡ true → y ≡ true
right_true true y h = h
right_true false y h = absurd (false≢true h)

-- a token that joins one before it opens and closes nothing
joint_stays : (before : Token) (sign : String) (token : Token) → turn (Sign (codes sign)) ≡ stays → joins before sign token ≡ true → turn (symbol token) ≡ stays
joint_stays before sign token none h =
    ap turn (is_sign-true sign (symbol token) (right_true (touches before token) (is_sign sign (symbol token)) h)) ∙ none

greater_stays : (greater : Bool) (b : ℕ) (text : List ℕ) → (b == 62) ≡ greater → turn (Sign (if greater then [] else b ∷ text)) ≡ stays
    → turn (Sign (b ∷ text)) ≡ stays
greater_stays true b text is h = subst (λ n. turn (Sign (n ∷ text)) ≡ stays) (sym (eqb-true b 62 is)) refl
greater_stays false b text is h = h

-- a symbol opens and closes nothing, if its text does not
text_stays : (s : Symbol) → turn (Sign (sign_text s)) ≡ stays → turn s ≡ stays
text_stays Name h = refl
text_stays (Number wide) h = refl
text_stays Text h = refl
text_stays End h = refl
text_stays (Sign []) h = h
text_stays (Sign (b ∷ text)) h = greater_stays (b == 62) b text refl h

module _ (Fits : ℕ → Entry → Type 0) (b c : ℕ) where
  -- the tokens of a sign that opens and closes nothing
  abbrev pub SignRuns : List Token → SignAt → Type 0
  SignRuns tokens sign =
      turn (Sign sign.0) ≡ stays → Runs Fits b c tokens (replicate (sign_tokens sign.0) plain) b c sign.1

  two_run : (first second third : Token) (tokens : List Token) (is : Bool) → turn (symbol first) ≡ stays → turn (symbol second) ≡ stays
      → joins second "=" third ≡ is
      → SignRuns (first ∷ second ∷ third ∷ tokens) (if is then (codes ">>=", tokens) else (codes ">>", third ∷ tokens))
  two_run first second third tokens true f s is none = passes f (passes s (passes (joint_stays second "=" third refl is) here))
  two_run first second third tokens false f s is none = passes f (passes s here)

  after_two_run : (first second : Token) (tokens : List Token) → turn (symbol first) ≡ stays → turn (symbol second) ≡ stays
      → SignRuns (first ∷ second ∷ tokens) (after_two second tokens)
  after_two_run first second [] f s none = passes f (passes s here)
  after_two_run first second (third ∷ tokens) f s none = two_run first second third tokens (joins second "=" third) f s refl none

  one_run : (first second : Token) (tokens : List Token) (shifts equals : Bool) → turn (symbol first) ≡ stays
      → joins first ">" second ≡ shifts → joins first "=" second ≡ equals
      → SignRuns (first ∷ second ∷ tokens) (if shifts then after_two second tokens else (if equals then (codes ">=", tokens) else (codes ">", second ∷ tokens)))
  one_run first second tokens true equals f shift equal none = after_two_run first second tokens f (joint_stays first ">" second refl shift) none
  one_run first second tokens false true f shift equal none = passes f (passes (joint_stays first "=" second refl equal) here)
  one_run first second tokens false false f shift equal none = passes f here

  after_one_run : (first : Token) (tokens : List Token) → turn (symbol first) ≡ stays → SignRuns (first ∷ tokens) (after_one first tokens)
  after_one_run first [] f none = passes f here
  after_one_run first (second ∷ tokens) f none = one_run first second tokens (joins first ">" second) (joins first "=" second) f refl refl none

  sign_run_by : (greater : Bool) (token : Token) (tokens : List Token) → is_sign ">" (symbol token) ≡ greater → SignRuns (token ∷ tokens) (sign_by greater token tokens)
  sign_run_by true token tokens is none = after_one_run token tokens (ap turn (is_sign-true ">" (symbol token) is)) none
  sign_run_by false token tokens is none =
      subst (λ n. Runs Fits b c (token ∷ tokens) (replicate n plain) b c tokens) (sym (plain_tokens (symbol token)))
      (passes (text_stays (symbol token) none) here)

  pub sign_run : (token : Token) (tokens : List Token) → SignRuns (token ∷ tokens) (sign_at (token ∷ tokens))
  sign_run token tokens none = sign_run_by (is_sign ">" (symbol token)) token tokens refl none

  pub operator_run : (operator : Operator) (token : Token) (tokens rest : List Token) → sign_at (token ∷ tokens) ≡ (codes (operator_text operator), rest)
      → Runs Fits b c (token ∷ tokens) (replicate (operator_tokens operator) plain) b c rest
  operator_run operator token tokens rest h =
      subst (λ n. Runs Fits b c (token ∷ tokens) (replicate n plain) b c rest) (of_operator_text operator)
      (subst (SignRuns (token ∷ tokens)) h (sign_run token tokens) (operator_stays operator))

  -- types open and close no bracket
  path_run : {tokens path rest : List Token} → IsPath tokens path rest → Runs Fits b c tokens (path_entries path) b c rest
  path_run ended = here
  path_run (dotted d n p) = passes (ap turn d) (passes (ap turn n) (path_run p))

  mutual
    pub type_run : {tokens rest : List Token} {type : TypeTree} (n : ℕ) → IsType tokens type rest → Runs Fits b c tokens (type_entries n type) b c rest
    type_run n (of_word {word = word} h p) = passes (ap turn h ∙ word_stays word) (path_run p)
    type_run n (type_of_name h p) = passes (ap turn h) (path_run p)
    type_run n (type_of_generic h a p) = passes (ap turn h) (runs_on (args_run (suc n) a) (path_run p))

    pub args_run : {tokens rest : List Token} {args : TypeTrees} (n : ℕ) → IsTypeArgs tokens args rest → Runs Fits b c tokens (args_entries n args) b c rest
    args_run n (type_args h l k) = list_run n (ap turn h) l (ap turn k)

    -- a list with the mark before it and the mark behind it
    list_run : {mark closing : Token} {tokens rest : List Token} {types : TypeTrees} (n : ℕ) → turn (symbol mark) ≡ stays
        → IsTypeList tokens types (closing ∷ rest) → turn (symbol closing) ≡ stays
        → Runs Fits b c (mark ∷ tokens) (args_entries n types) b c rest
    list_run n m (last_type t) k = passes m (runs_on (type_run n t) (passes k here))
    list_run n m (more_types t h l) k = passes m (runs_on (type_run n t) (more_run n (ap turn h) l k))

    more_run : {mark closing : Token} {tokens rest : List Token} {types : TypeTrees} (n : ℕ) → turn (symbol mark) ≡ stays
        → IsTypeList tokens types (closing ∷ rest) → turn (symbol closing) ≡ stays
        → Runs Fits b c (mark ∷ tokens) (more_types_entries n types) b c rest
    more_run n m (last_type t) k = passes m (runs_on (type_run n t) (passes k here))
    more_run n m (more_types t h l) k = passes m (runs_on (type_run n t) (more_run n (ap turn h) l k))

-- a token of these signs leads on to names
member_stays : (token : Token) → Is "." token ⊎ Is "::" token → turn (symbol token) ≡ stays
member_stays token (inl dot) = ap turn dot
member_stays token (inr colons) = ap turn colons

module _ (Fits : ℕ → Entry → Type 0) where
  -- tokens come back to the depths at which they begin, in so many brackets and braces
  abbrev pub Stands : ℕ → ℕ → List Token → List Entry → List Token → Type 0
  Stands b c tokens entries rest = Runs Fits b c tokens entries b c rest

  -- a form in its brackets
  pub bracketed : {b c : ℕ} {opening closing : Token} {tokens rest : List Token} {entry : Entry} {entries : List Entry}
      → turn (symbol opening) ≡ opens_round → Fits (suc b) entry
      → Runs Fits (suc b) c tokens entries (suc b) c (closing ∷ rest) → turn (symbol closing) ≡ closes_round
      → Runs Fits b c (opening ∷ tokens) (entry ∷ (entries ++ plain ∷ [])) b c rest
  bracketed o f p k = enters o f (runs_on p (leaves k here))

module _ (Fits : ℕ → Entry → Type 0) (fits : (depth : ℕ) → Fits depth (opens depth)) (c : ℕ) where
  mutual
    primary_run : {tokens rest : List Token} {e : ExprTree} (around : Nesting) → IsPrimary tokens e rest → Stands Fits around.brackets c tokens (expr_entries around e) rest
    primary_run around (of_number h) = passes (ap turn h) here
    primary_run around (of_true h) = passes (ap turn h) here
    primary_run around (of_false h) = passes (ap turn h) here
    primary_run around (of_itself h) = passes (ap turn h) here
    primary_run around (of_name h n) = passes (ap turn h) here
    primary_run around (of_generic h n) = passes (ap turn h) (args_run Fits around.brackets c around.types n.arguments)
    primary_run around (of_functional_cast {word = word} s h o inner k) =
        passes (ap turn h ∙ word_stays word) (bracketed Fits (ap turn o) (fits (suc around.brackets)) (expr_run (in_bracket around) inner) (ap turn k))
    primary_run around (of_own_type h) = passes (ap turn h) here
    primary_run around (of_group o inner k) =
        bracketed Fits (ap turn o) (fits (suc around.brackets)) (expr_run (in_bracket around) inner) (ap turn k)

    postfix_run : {tokens rest : List Token} {e : ExprTree} (around : Nesting) → IsPostfix tokens e rest → Stands Fits around.brackets c tokens (expr_entries around e) rest
    postfix_run around (of_primary p) = primary_run around p
    postfix_run around (of_call p o a) =
        runs_on (postfix_run around p) (enters (ap turn o) (fits (suc around.brackets)) (arguments_run around a))
    postfix_run around (of_index p o inner k) =
        runs_on (postfix_run around p) (bracketed Fits (ap turn o) (fits (suc around.brackets)) (expr_run (in_bracket around) inner) (ap turn k))
    postfix_run around (of_member {dot = dot} p d n) = runs_on (postfix_run around p) (passes (member_stays dot d) (passes (ap turn n) here))

    -- arguments with the bracket behind them
    arguments_run : {tokens rest : List Token} {args : ExprTrees} (around : Nesting) → IsArguments tokens args rest
        → Runs Fits (suc around.brackets) c tokens (exprs_entries (in_bracket around) args ++ plain ∷ []) around.brackets c rest
    arguments_run around (no_arguments k) = leaves (ap turn k) here
    arguments_run around (some_arguments l k) = runs_on (exprs_run (in_bracket around) l) (leaves (ap turn k) here)

    exprs_run : {tokens rest : List Token} {exprs : ExprTrees} (around : Nesting) → IsExprList tokens exprs rest → Stands Fits around.brackets c tokens (exprs_entries around exprs) rest
    exprs_run around (last_expr p) = runs_on (expr_run around p) here
    exprs_run around (more_exprs p h l) = runs_on (expr_run around p) (more_exprs_run around (ap turn h) l)

    -- expressions with a comma before each
    more_exprs_run : {comma : Token} {tokens rest : List Token} {exprs : ExprTrees} (around : Nesting) → turn (symbol comma) ≡ stays
        → IsExprList tokens exprs rest → Stands Fits around.brackets c (comma ∷ tokens) (more_exprs_entries around exprs) rest
    more_exprs_run around m (last_expr p) = passes m (runs_on (expr_run around p) here)
    more_exprs_run around m (more_exprs p h l) = passes m (runs_on (expr_run around p) (more_exprs_run around (ap turn h) l))

    unary_run : {tokens rest : List Token} {e : ExprTree} (around : Nesting) → IsUnary tokens e rest → Stands Fits around.brackets c tokens (expr_entries around e) rest
    unary_run around (of_operator {operator = operator} h u) = passes (ap turn h ∙ unary_stays operator) (unary_run (in_unary around) u)
    unary_run around (of_cast {word = word} o s h k u) =
        enters (ap turn o) (fits (suc around.brackets)) (passes (ap turn h ∙ word_stays word) (leaves (ap turn k) (unary_run around u)))
    unary_run around (of_postfix p) = postfix_run around p

    binary_run : {least : ℕ} {tokens rest : List Token} {e : ExprTree} (around : Nesting) → IsBinary least tokens e rest → Stands Fits around.brackets c tokens (expr_entries around e) rest
    binary_run around (of_unary u) = unary_run around u
    binary_run around (of_operands {operator = operator} {token = t} {after = after} {behind = behind} le l s r) =
        runs_on (binary_run around l) (runs_on (operator_run Fits around.brackets c operator t after behind s) (binary_run around r))

    pub expr_run : {tokens rest : List Token} {e : ExprTree} (around : Nesting) → IsExpr tokens e rest → Stands Fits around.brackets c tokens (expr_entries around e) rest
    expr_run around (of_binary b) = binary_run around b
    expr_run around (of_condition b q x colon z) =
        runs_on (binary_run around b) (passes (ap turn q) (runs_on (expr_run around x) (passes (ap turn colon) (expr_run around z))))

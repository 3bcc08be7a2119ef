-- The signs that the machine tells apart.
use Rattle.std.proofs.Common.{◌≡◌, ℕ, suc, Bool, true, false, List, [], ◌∷◌, refl, sym, ap, subst, ◌∙◌, codes}
use Rattle.std.specs.Prelude.{Option, Some, None, IsTrue, ◌==◌, if◌then◌else◌, replicate}
use Rattle.std.specs.Str.{bytes_eq}
use Rattle.std.proofs.lemmas.Bool.{false≢true}
use Rattle.std.proofs.lemmas.Slice.Eq.{bytes_eq-Decides}
use Prim.Native.String.{String}
use Rattle.def_token.specs.Lexical.{Token}
use Rattle.def_tree.specs.Limits.{plain, operator_tokens}
use Rattle.def_tree.specs.Operator.{Operator, operators, operator_text, Or, And, BitOr, BitXor, BitAnd, Equal, NotEqual, Less, LessEqual, Greater, GreaterEqual, ShiftLeft, ShiftRight, Add, Subtract, Multiply, Divide, Remainder, UnaryOperator, unary_text, Minus, Plus, Not, Complement, SignAt, sign_at, sign_text, after_one, after_two, joins}
use Rattle.def_tree.specs.Symbol.{Symbol, Name, Number, Text, End, Sign, symbol, is_sign}
use Rattle.def_tree.specs.TypeTree.{TypeWord, word_text, is_scalar}
use Rattle.law_tree.proofs.Covered.{sign_tokens}
use Rattle.law_tree.proofs.OperatorSigns.{written as operator_written, sign_by}
use Rattle.law_tree.proofs.Symbols.{is_sign-true}
use Rattle.def_reading.specs.Cursor.{Told, At, passed}
use Rattle.def_reading.specs.Machine.{written, written_by, sign_of, Scalar, Unary, start_text, starts, behind_text, behinds}
use Rattle.law_tree.proofs.Words.{every_word}

-- what is found in a table is written so
written_by-some : {A : Type 0} (text_of : A → String) (b : Bool) (text : List ℕ) (a found : A) (others : Option A) → bytes_eq text (codes (text_of a)) ≡ b
    → (others ≡ Some found → text ≡ codes (text_of found)) → written_by b a others ≡ Some found → text ≡ codes (text_of found)
written_by-some text_of true text a found others is more h =
    let same : a ≡ found = cc in (bytes_eq-Decides text (codes (text_of a))).0 is ∙ ap (λ x. codes (text_of x)) same
written_by-some text_of false text a found others is more h = more h

pub written-some : {A : Type 0} (text_of : A → String) (table : List A) (text : List ℕ) (found : A) → written text_of table text ≡ Some found → text ≡ codes (text_of found)
written-some text_of [] text found h = absurd (cc)
written-some text_of (a ∷ others) text found h =
    written_by-some text_of (bytes_eq text (codes (text_of a))) text a found (written text_of others text) refl (written-some text_of others text found) h

pub sign_of-some : {A : Type 0} (text_of : A → String) (table : List A) (s : Symbol) (found : A) → sign_of text_of table s ≡ Some found → s ≡ Sign (codes (text_of found))
sign_of-some text_of table Name found h = absurd (cc)
sign_of-some text_of table (Number wide) found h = absurd (cc)
sign_of-some text_of table Text found h = absurd (cc)
sign_of-some text_of table End found h = absurd (cc)
sign_of-some text_of table (Sign text) found h = ap Sign (written-some text_of table text found h)

pub scalar_start : (word : TypeWord) → IsTrue (is_scalar word) → written start_text starts (codes (word_text word)) ≡ Some (Scalar word)
scalar_start = every_word (λ word. IsTrue (is_scalar word) → written start_text starts (codes (word_text word)) ≡ Some (Scalar word)) ((λ h. refl), ((λ h. refl), ((λ h. refl), ((λ h. refl), ((λ h. refl), ((λ h. absurd (false≢true h)), ((λ h. absurd (false≢true h)), ((λ h. absurd (false≢true h)), tt))))))))

pub unary_start : (operator : UnaryOperator) → written start_text starts (codes (unary_text operator)) ≡ Some (Unary operator)
unary_start Minus = refl
unary_start Plus = refl
unary_start Not = refl
unary_start Complement = refl

pub operator_found : (operator : Operator) → written operator_text operators (codes (operator_text operator)) ≡ Some operator
operator_found Or = refl
operator_found And = refl
operator_found BitOr = refl
operator_found BitXor = refl
operator_found BitAnd = refl
operator_found Equal = refl
operator_found NotEqual = refl
operator_found Less = refl
operator_found LessEqual = refl
operator_found Greater = refl
operator_found GreaterEqual = refl
operator_found ShiftLeft = refl
operator_found ShiftRight = refl
operator_found Add = refl
operator_found Subtract = refl
operator_found Multiply = refl
operator_found Divide = refl
operator_found Remainder = refl

not_behind : (operator : Operator) → sign_of behind_text behinds (Sign (codes (operator_text operator))) ≡ None
not_behind Or = refl
not_behind And = refl
not_behind BitOr = refl
not_behind BitXor = refl
not_behind BitAnd = refl
not_behind Equal = refl
not_behind NotEqual = refl
not_behind Less = refl
not_behind LessEqual = refl
not_behind Greater = refl
not_behind GreaterEqual = refl
not_behind ShiftLeft = refl
not_behind ShiftRight = refl
not_behind Add = refl
not_behind Subtract = refl
not_behind Multiply = refl
not_behind Divide = refl
not_behind Remainder = refl

text_is : (greater : Bool) (b : ℕ) (text : List ℕ) (operator : Operator) → (if greater then [] else b ∷ text) ≡ codes (operator_text operator) → Sign (b ∷ text) ≡ Sign (codes (operator_text operator))
text_is true b text operator h = absurd (operator_written operator h)
text_is false b text operator h = ap Sign h

pub sign_is : (s : Symbol) (operator : Operator) → sign_text s ≡ codes (operator_text operator) → s ≡ Sign (codes (operator_text operator))
sign_is Name operator h = absurd (operator_written operator h)
sign_is (Number wide) operator h = absurd (operator_written operator h)
sign_is Text operator h = absurd (operator_written operator h)
sign_is End operator h = absurd (operator_written operator h)
sign_is (Sign []) operator h = absurd (operator_written operator h)
sign_is (Sign (b ∷ text)) operator h = text_is (b == 62) b text operator h

head_by : (b : Bool) (token : Token) (after behind : List Token) (operator : Operator) → is_sign ">" (symbol token) ≡ b
    → sign_by b token after ≡ (codes (operator_text operator), behind) → sign_of behind_text behinds (symbol token) ≡ None
head_by true token after behind operator is h = rw (is_sign-true ">" (symbol token) is) refl
head_by false token after behind operator is h = rw (sign_is (symbol token) operator (ap (λ (q : SignAt). q.0) h)) (not_behind operator)

-- an operator begins with no other sign behind an operand
pub operator_not_behind : (token : Token) (after behind : List Token) (operator : Operator)
    → sign_at (token ∷ after) ≡ (codes (operator_text operator), behind) → sign_of behind_text behinds (symbol token) ≡ None
operator_not_behind token after behind operator h = head_by (is_sign ">" (symbol token)) token after behind operator refl h

pub operator_is : (token : Token) (after behind : List Token) (operator : Operator)
    → sign_at (token ∷ after) ≡ (codes (operator_text operator), behind) → written operator_text operators (sign_at (token ∷ after)).0 ≡ Some operator
operator_is token after behind operator h = ap (λ (q : SignAt). written operator_text operators q.0) h ∙ operator_found operator

-- the place behind a sign
pub record PassesSign (at : ℕ) (limit : Option Told) (tokens : List Token) (found : SignAt) : Type 0 where
  pub behind : ℕ
  pub is : passed (replicate (sign_tokens found.0) plain) (At at limit tokens) ≡ At behind limit found.1

two_passes : (b : Bool) (at : ℕ) (limit : Option Told) (first second third : Token) (tokens : List Token)
    → PassesSign at limit (first ∷ second ∷ third ∷ tokens) (if b then (codes ">>=", tokens) else (codes ">>", third ∷ tokens))
two_passes true at limit first second third tokens = record { behind = suc (suc (suc at)); is = refl }
two_passes false at limit first second third tokens = record { behind = suc (suc at); is = refl }

after_two_passes : (at : ℕ) (limit : Option Told) (first second : Token) (tokens : List Token) → PassesSign at limit (first ∷ second ∷ tokens) (after_two second tokens)
after_two_passes at limit first second [] = record { behind = suc (suc at); is = refl }
after_two_passes at limit first second (third ∷ tokens) = two_passes (joins second "=" third) at limit first second third tokens

one_passes : (shifts equals : Bool) (at : ℕ) (limit : Option Told) (first second : Token) (tokens : List Token)
    → PassesSign at limit (first ∷ second ∷ tokens) (if shifts then after_two second tokens else (if equals then (codes ">=", tokens) else (codes ">", second ∷ tokens)))
one_passes true equals at limit first second tokens = after_two_passes at limit first second tokens
one_passes false true at limit first second tokens = record { behind = suc (suc at); is = refl }
one_passes false false at limit first second tokens = record { behind = suc at; is = refl }

after_one_passes : (at : ℕ) (limit : Option Told) (first : Token) (tokens : List Token) → PassesSign at limit (first ∷ tokens) (after_one first tokens)
after_one_passes at limit first [] = record { behind = suc at; is = refl }
after_one_passes at limit first (second ∷ tokens) = one_passes (joins first ">" second) (joins first "=" second) at limit first second tokens

plain_tokens_by : (greater : Bool) (b : ℕ) (text : List ℕ) → (b == 62) ≡ greater → sign_tokens (if greater then [] else b ∷ text) ≡ 1
plain_tokens_by true b text h = refl
plain_tokens_by false b text h = rw h refl

plain_tokens : (s : Symbol) → sign_tokens (sign_text s) ≡ 1
plain_tokens Name = refl
plain_tokens (Number wide) = refl
plain_tokens Text = refl
plain_tokens End = refl
plain_tokens (Sign []) = refl
plain_tokens (Sign (b ∷ text)) = plain_tokens_by (b == 62) b text refl

sign_passes_by : (b : Bool) (at : ℕ) (limit : Option Told) (token : Token) (tokens : List Token) → PassesSign at limit (token ∷ tokens) (sign_by b token tokens)
sign_passes_by true at limit token tokens = after_one_passes at limit token tokens
sign_passes_by false at limit token tokens = record { behind = suc at; is = rw (plain_tokens (symbol token)) refl }

pub sign_passes : (at : ℕ) (limit : Option Told) (token : Token) (tokens : List Token) → PassesSign at limit (token ∷ tokens) (sign_at (token ∷ tokens))
sign_passes at limit token tokens = sign_passes_by (is_sign ">" (symbol token)) at limit token tokens

of_operator_text : (operator : Operator) → sign_tokens (codes (operator_text operator)) ≡ operator_tokens operator
of_operator_text Or = refl
of_operator_text And = refl
of_operator_text BitOr = refl
of_operator_text BitXor = refl
of_operator_text BitAnd = refl
of_operator_text Equal = refl
of_operator_text NotEqual = refl
of_operator_text Less = refl
of_operator_text LessEqual = refl
of_operator_text Greater = refl
of_operator_text GreaterEqual = refl
of_operator_text ShiftLeft = refl
of_operator_text ShiftRight = refl
of_operator_text Add = refl
of_operator_text Subtract = refl
of_operator_text Multiply = refl
of_operator_text Divide = refl
of_operator_text Remainder = refl

-- the place behind an operator
pub record PassesOperator (operator : Operator) (at : ℕ) (limit : Option Told) (tokens behind : List Token) : Type 0 where
  pub next : ℕ
  pub is : passed (replicate (operator_tokens operator) plain) (At at limit tokens) ≡ At next limit behind

pub operator_passes : (operator : Operator) (at : ℕ) (limit : Option Told) (token : Token) (after behind : List Token)
    → sign_at (token ∷ after) ≡ (codes (operator_text operator), behind) → PassesOperator operator at limit (token ∷ after) behind
operator_passes operator at limit token after behind h =
    let moved = subst (PassesSign at limit (token ∷ after)) h (sign_passes at limit token after) in
    record { next = moved.behind; is = ap (λ n. passed (replicate n plain) (At at limit (token ∷ after))) (sym (of_operator_text operator)) ∙ moved.is }

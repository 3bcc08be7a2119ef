-- Signs with which no expression goes on, and those that hang on what stands behind them.
use Rattle.std.proofs.Common.{◌≡◌, ℕ, Bool, true, false, List, [], ◌∷◌, refl, sym, ◌∙◌, codes}
use Rattle.std.specs.Prelude.{Option, None, ◌==◌, if◌then◌else◌}
use Rattle.std.specs.List.{list_any}
use Rattle.std.specs.Str.{bytes_eq}
use Rattle.std.proofs.lemmas.Bool.{false≢true, or_parts, or_from}
use Prim.Native.String.{String}
use Rattle.def_token.specs.Lexical.{Token}
use Rattle.def_tree.specs.Operator.{operators, operator_text, SignAt, sign_at, sign_text, after_one, after_two, joins}
use Rattle.def_tree.specs.Part.{begins_with_operator, expr_goes_on, signs_behind}
use Rattle.def_tree.specs.Statements.{begins_with}
use Rattle.def_tree.specs.Symbol.{Symbol, Name, Number, Text, End, Sign, symbol, is_sign, Is}
use Rattle.law_tree.proofs.OperatorSigns.{sign_by}
use Rattle.law_tree.proofs.Symbols.{is_sign-true}
use Rattle.def_reading.specs.Machine.{written, written_by, sign_of, behind_text, behinds}

-- The signs behind operands, where none is found.
written_by-none : {A : Type 0} (b : Bool) (a : A) (others : Option A) → written_by b a others ≡ None → (b ≡ false) × (others ≡ None)
written_by-none true a others h = absurd (cc)
written_by-none false a others h = (refl, h)

pub written-none : {A : Type 0} (text_of : A → String) (table : List A) (text : List ℕ) → written text_of table text ≡ None → list_any (λ a. bytes_eq text (codes (text_of a))) table ≡ false
written-none text_of [] text h = refl
written-none text_of (a ∷ others) text h =
    let both = written_by-none (bytes_eq text (codes (text_of a))) a (written text_of others text) h in
    or_from (bytes_eq text (codes (text_of a))) _ both.0 (written-none text_of others text both.1)

pub any-written : {A : Type 0} (text_of : A → String) (table : List A) (text : List ℕ) → list_any (λ a. bytes_eq text (codes (text_of a))) table ≡ false → written text_of table text ≡ None
any-written text_of [] text h = refl
any-written text_of (a ∷ others) text h =
    let both = or_parts (bytes_eq text (codes (text_of a))) (list_any (λ b. bytes_eq text (codes (text_of b))) others) h in
    rw (both.0) (any-written text_of others text both.1)

pub sign_of-none : {A : Type 0} (text_of : A → String) (table : List A) (s : Symbol) → sign_of text_of table s ≡ None → list_any (λ a. is_sign (text_of a) s) table ≡ false
sign_of-none text_of [] s h = refl
sign_of-none text_of (a ∷ others) Name h = sign_of-none text_of others Name refl
sign_of-none text_of (a ∷ others) (Number wide) h = sign_of-none text_of others (Number wide) refl
sign_of-none text_of (a ∷ others) Text h = sign_of-none text_of others Text refl
sign_of-none text_of (a ∷ others) End h = sign_of-none text_of others End refl
sign_of-none text_of (a ∷ others) (Sign text) h =
    let both = written_by-none (bytes_eq text (codes (text_of a))) a (written text_of others text) h in
    or_from (bytes_eq text (codes (text_of a))) _ both.0 (sign_of-none text_of others (Sign text) both.1)

-- nothing goes on where neither an operator nor another sign behind operands stands
pub no_more_signs : (t : Token) (ts : List Token) → sign_of behind_text behinds (symbol t) ≡ None → list_any (λ (sign : String). begins_with sign (t ∷ ts)) signs_behind ≡ false
no_more_signs t ts h =
    let none = sign_of-none behind_text behinds (symbol t) h in
    let one = or_parts (is_sign "(" (symbol t)) _ none in
    let two = or_parts (is_sign "[" (symbol t)) _ one.1 in
    let three = or_parts (is_sign "." (symbol t)) _ two.1 in
    let four = or_parts (is_sign "::" (symbol t)) _ three.1 in
    let five = or_parts (is_sign "?" (symbol t)) _ four.1 in
    or_from _ _ five.0 (or_from _ _ one.0 (or_from _ _ two.0 (or_from _ _ three.0 (or_from _ _ four.0 refl))))

pub ends_before : (t : Token) (ts : List Token) → sign_of behind_text behinds (symbol t) ≡ None → written operator_text operators (sign_at (t ∷ ts)).0 ≡ None → expr_goes_on (t ∷ ts) ≡ false
ends_before t ts h o = or_from (begins_with_operator (t ∷ ts)) _ (written-none operator_text operators (sign_at (t ∷ ts)).0 o) (no_more_signs t ts h)

-- `>>=` is three tokens
pub record IsAssignment (t : Token) (ts : List Token) : Type 0 where
  pub second : Token
  pub third : Token
  pub others : List Token
  pub are : ts ≡ second ∷ third ∷ others
  pub first : Is ">" t
  pub shifts : joins t ">" second ≡ true
  pub assigns : joins second "=" third ≡ true

text_no_assignment : (greater : Bool) (b : ℕ) (text : List ℕ) → (b == 62) ≡ greater → (if greater then [] else b ∷ text) ≡ codes ">>=" → ⊥
text_no_assignment true b text is h = absurd (cc)
text_no_assignment false b text is h =
    let same : b ≡ 62 = cc in false≢true (sym is ∙ rw same refl)

no_assignment : (s : Symbol) → sign_text s ≡ codes ">>=" → ⊥
no_assignment Name h = absurd (cc)
no_assignment (Number wide) h = absurd (cc)
no_assignment Text h = absurd (cc)
no_assignment End h = absurd (cc)
no_assignment (Sign []) h = absurd (cc)
no_assignment (Sign (b ∷ text)) h = text_no_assignment (b == 62) b text refl h

abbrev pub two_by : Bool → Token → List Token → SignAt
two_by b third ts = if b then (codes ">>=", ts) else (codes ">>", third ∷ ts)

abbrev pub one_by : Bool → Bool → Token → List Token → SignAt
one_by shifts equals second ts = if shifts then after_two second ts else (if equals then (codes ">=", ts) else (codes ">", second ∷ ts))

two_assigns : (b : Bool) (t second third : Token) (ts : List Token) → Is ">" t → joins t ">" second ≡ true → joins second "=" third ≡ b
    → (two_by b third ts).0 ≡ codes ">>=" → IsAssignment t (second ∷ third ∷ ts)
two_assigns true t second third ts g j is h = record { second = second; third = third; others = ts; are = refl; first = g; shifts = j; assigns = is }
two_assigns false t second third ts g j is h = absurd (cc)

after_two_assigns : (t second : Token) (ts : List Token) → Is ">" t → joins t ">" second ≡ true → (after_two second ts).0 ≡ codes ">>=" → IsAssignment t (second ∷ ts)
after_two_assigns t second [] g j h = absurd (cc)
after_two_assigns t second (third ∷ ts) g j h = two_assigns (joins second "=" third) t second third ts g j refl h

one_assigns : (shifts equals : Bool) (t second : Token) (ts : List Token) → Is ">" t → joins t ">" second ≡ shifts
    → (one_by shifts equals second ts).0 ≡ codes ">>=" → IsAssignment t (second ∷ ts)
one_assigns true equals t second ts g j h = after_two_assigns t second ts g j h
one_assigns false true t second ts g j h = absurd (cc)
one_assigns false false t second ts g j h = absurd (cc)

after_one_assigns : (t : Token) (ts : List Token) → Is ">" t → (after_one t ts).0 ≡ codes ">>=" → IsAssignment t ts
after_one_assigns t [] g h = absurd (cc)
after_one_assigns t (second ∷ ts) g h = one_assigns (joins t ">" second) (joins t "=" second) t second ts g refl h

assigns_by : (b : Bool) (t : Token) (ts : List Token) → is_sign ">" (symbol t) ≡ b → (sign_by b t ts).0 ≡ codes ">>=" → IsAssignment t ts
assigns_by true t ts g h = after_one_assigns t ts (is_sign-true ">" (symbol t) g) h
assigns_by false t ts g h = absurd (no_assignment (symbol t) h)

pub assigns : (t : Token) (ts : List Token) → (sign_at (t ∷ ts)).0 ≡ codes ">>=" → IsAssignment t ts
assigns t ts h = assigns_by (is_sign ">" (symbol t)) t ts refl h

-- `>` begins an operator, or `>>=`
two_operates : (b : Bool) (third : Token) (ts : List Token) → written operator_text operators (two_by b third ts).0 ≡ None → bytes_eq (two_by b third ts).0 (codes ">>=") ≡ true
two_operates true third ts h = refl
two_operates false third ts h = absurd (cc)

after_two_operates : (second : Token) (ts : List Token) → written operator_text operators (after_two second ts).0 ≡ None → bytes_eq (after_two second ts).0 (codes ">>=") ≡ true
after_two_operates second [] h = absurd (cc)
after_two_operates second (third ∷ ts) h = two_operates (joins second "=" third) third ts h

one_operates : (shifts equals : Bool) (second : Token) (ts : List Token)
    → written operator_text operators (one_by shifts equals second ts).0 ≡ None
    → bytes_eq (one_by shifts equals second ts).0 (codes ">>=") ≡ true
one_operates true equals second ts h = after_two_operates second ts h
one_operates false true second ts h = absurd (cc)
one_operates false false second ts h = absurd (cc)

after_one_operates : (t : Token) (ts : List Token) → written operator_text operators (after_one t ts).0 ≡ None → bytes_eq (after_one t ts).0 (codes ">>=") ≡ true
after_one_operates t [] h = absurd (cc)
after_one_operates t (second ∷ ts) h = one_operates (joins t ">" second) (joins t "=" second) second ts h

-- a sign that is neither an operator nor `>>=` is one whatever stands behind it
pub record IsAlone (t : Token) : Type 0 where
  pub no_operator : (more : List Token) → written operator_text operators (sign_at (t ∷ more)).0 ≡ None
  pub no_assignment : (more : List Token) → bytes_eq (sign_at (t ∷ more)).0 (codes ">>=") ≡ false

alone_by : (b : Bool) (t : Token) (ts : List Token) → is_sign ">" (symbol t) ≡ b → written operator_text operators (sign_by b t ts).0 ≡ None → bytes_eq (sign_by b t ts).0 (codes ">>=") ≡ false → IsAlone t
alone_by true t ts g o h = absurd (false≢true (sym h ∙ after_one_operates t ts o))
alone_by false t ts g o h = record { no_operator = λ more. rw g o; no_assignment = λ more. rw g h }

pub alone : (t : Token) (ts : List Token) → written operator_text operators (sign_at (t ∷ ts)).0 ≡ None → bytes_eq (sign_at (t ∷ ts)).0 (codes ">>=") ≡ false → IsAlone t
alone t ts o h = alone_by (is_sign ">" (symbol t)) t ts refl o h

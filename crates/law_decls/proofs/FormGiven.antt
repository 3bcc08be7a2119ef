-- Tokens of a form are read as the form, before what begins so.
use Rattle.std.proofs.Common.{◌≡◌, ℕ, zero, suc, ◌<◌, Bool, true, false, List, [], ◌∷◌, length, refl, ap, ◌∙◌, codes, arith}
use Rattle.std.proofs.lemmas.Bool.{false≢true}
use Rattle.def_token.specs.Lexical.{Token}
use Rattle.def_tree.specs.ExprTree.{ExprTree}
use Rattle.def_tree.specs.Expressions.{IsExpr}
use Rattle.def_tree.specs.Limits.{Nesting, Entry, whole_entries}
use Rattle.def_tree.specs.Symbol.{Symbol, Sign, symbol, is_sign}
use Rattle.law_tree.proofs.Symbols.{is_sign-true}
use Rattle.law_module.proofs.Parts.{type_ends}
use Rattle.def_reading.specs.Cursor.{At}
use Rattle.def_reading.specs.Try.{Reads, Reader, try_then, try_as, listed, expr_in}
use Rattle.law_exprs.proofs.ExprComes.{expr_is, type_is}
use Rattle.law_stmts.proofs.LocalComes.{listed_last, listed_more, comes_ahead}
use Rattle.law_stmts.proofs.StmtComes.{semicolon_stops, comes_shorter}
use Rattle.law_exprs.proofs.TryComes.{Comes, comes_end, comes_as, comes_then, comes_yes, comes_no}
use Rattle.def_decl_reading.specs.Form.{Front, is_front, Form, Made, Never, Branch, Then, As, Listed, Many, Until, AType, AnExpr, Stmts, begins, with_first, many_in, unless_by, until_in, reads}
use Rattle.law_decls.proofs.FormComes.{fits_front, arrives_stmts}
use Rattle.law_decls.proofs.FormFirst.{with_front, in_first_front, in_with_front, some_tree, range_of, range, goes_on, Predicts, form_first}
use Rattle.law_decls.proofs.FormShorter.{less}
use Rattle.law_decls.proofs.Gives.{is_made, is_part, is_yes, is_no, is_then, is_as, ListedBy, is_last, is_more, ManyBy, is_none, is_one, UntilBy, is_end, is_on, Gives, Eats}
use Rattle.law_decls.proofs.Range.{Range, Among, In, with_symbol, joined, avoids, in_within, in_passes, in_avoids, in_with, in_first}

-- each tree is read before what begins so
abbrev Given : {A : Type 0} → Form A → Range → Type 0
Given {A = A} form behind = (tokens : List Token) (a : A) (entries : List Entry) (rest : List Token) → Gives form tokens a entries rest → In behind rest → Comes (reads form) tokens a entries rest

-- forms with a comma between them
module _ {A : Type 0} (form : Form A) (behind : Range) (given : Given form (with_symbol (Sign (codes ",")) behind)) (apart : avoids (is_sign ",") behind ≡ true) where
  listed_given : (turns : ℕ) (tokens : List Token) (as' : List A) (entries : List Entry) (rest : List Token) → ListedBy (Gives form) tokens as' entries rest → In behind rest → length tokens < turns
      → Comes (listed with_first [] (reads form) turns) tokens as' entries rest
  listed_given zero tokens as' entries rest l h few = absurd (omega (arith, few))
  listed_given (suc turns) tokens as' entries rest (is_last {a = a} {entries = es} g) h few =
      listed_last with_first [] (reads form) turns (given tokens a es rest g (in_with (Sign (codes ",")) behind rest h)) (in_avoids (is_sign ",") behind rest apart h)
  listed_given (suc turns) tokens as' entries rest (is_more {comma = comma} {behind = after} {a = a} {more = more} {entries = es} {others = others} g c l) h few =
      let first = given tokens a es (comma ∷ after) g (in_first (Sign (codes ",")) behind comma after c) in
      listed_more with_first [] (reads form) turns comma first c (listed_given turns after more others rest l h (omega (arith, few, comes_shorter first)))

-- forms that each begin with a token of one kind
module _ {A : Type 0} (front : Front) (entry : Entry) (form : Token → Form A) (behind : Range) (given : (token : Token) → Given (form token) (with_front front behind)) where
  abbrev turning : ℕ → Reader (List A)
  turning = many_in (is_front front) entry (λ token. reads (form token))

  -- more forms behind one
  abbrev more_turns : ℕ → A → Reader (List A)
  more_turns turns first reach place = try_as (with_first first) (turning turns reach place)

  -- forms behind a token
  abbrev first_turn : ℕ → Token → Reader (List A)
  first_turn turns token reach place = try_then (more_turns turns) (reads (form token) reach place)

  -- such forms begin with their token, or as what stands behind them
  many_first : (tokens : List Token) (as' : List A) (entries : List Entry) (rest : List Token) → ManyBy front entry (λ token. Gives (form token)) tokens as' entries rest → In behind rest → In (with_front front behind) tokens
  many_first tokens as' entries rest (is_none none) h = in_with_front front behind tokens h
  many_first tokens as' entries rest (is_one {token = token} {others = others} f g m) h = in_first_front front behind token others f

  -- they are read
  many_given : (turns : ℕ) (tokens : List Token) (as' : List A) (entries : List Entry) (rest : List Token) → ManyBy front entry (λ token. Gives (form token)) tokens as' entries rest → In behind rest → length tokens < turns
      → Comes (turning turns) tokens as' entries rest
  many_given zero tokens as' entries rest m h few = absurd (omega (arith, few))
  many_given (suc turns) tokens as' entries rest (is_none none) h few = comes_no (is_front front) entry (first_turn turns) (λ reach place. Reads [] place reach) none (comes_end [] tokens)
  many_given (suc turns) tokens as' entries rest (is_one {token = token} {others = others} {behind = mid} {a = a} {more = more} {entries = es} {es = rests} f g m) h few =
      let first = given token others a es mid g (many_first mid more rests rest m h) in
      comes_yes (is_front front) entry (first_turn turns) (λ reach place. Reads [] place reach) token (fits_front front token f)
      (comes_then (more_turns turns) (reads (form token)) first (comes_as (with_first a) (turning turns) (many_given turns mid more rests rest m h (omega (arith, few, comes_shorter first)))))

-- forms up to a token that passes a test
module _ {A : Type 0} (test : Symbol → Bool) (form : Form A) (behind : Range) (eats : Eats form) (given : Given form (joined (range (Among []) form) behind))
    (heads : (tokens : List Token) (as' : List A) (entries : List Entry) (rest : List Token) → UntilBy test (Gives form) tokens as' entries rest → In behind rest → In (joined (range (Among []) form) behind) tokens) where
  abbrev going : ℕ → Reader (List A)
  going = until_in test (reads form)

  -- more forms behind one
  abbrev more_forms : ℕ → A → Reader (List A)
  more_forms turns first reach place = try_as (with_first first) (going turns reach place)

  -- forms up to the token
  abbrev first_forms : ℕ → Reader (List A)
  first_forms turns reach place = try_then (more_forms turns) (reads form reach place)

  -- they are read
  until_given : (turns : ℕ) (tokens : List Token) (as' : List A) (entries : List Entry) (rest : List Token) → UntilBy test (Gives form) tokens as' entries rest → In behind rest → length tokens < turns
      → Comes (going turns) tokens as' entries rest
  until_given zero tokens as' entries rest u h few = absurd (omega (arith, few))
  until_given (suc turns) tokens as' entries rest (is_end e) h few =
      record { comes = λ at limit reach. record { at = at; limit = limit; reach = reach; is = ap (λ b. unless_by b (first_forms turns) reach (At at limit tokens)) e; passes = λ n. refl } }
  until_given (suc turns) tokens as' entries rest (is_on {behind = mid} {a = a} {more = more} {entries = es} {others = others} none g u) h few =
      let first = given tokens a es mid g (heads mid more others rest u h) in
      let all = until_given turns mid more others rest u h (omega (arith, few, less form eats tokens a es mid g)) in
      let c = comes_then (more_forms turns) (reads form) first (comes_as (with_first a) (going turns) all) in
      record {
        comes = λ at limit reach.
            let got = c.comes at limit reach in
            record { at = got.at; limit = got.limit; reach = got.reach; is = ap (λ b. unless_by b (first_forms turns) reach (At at limit tokens)) none ∙ got.is; passes = got.passes };
      }

-- an expression before a semicolon
value_given : (around : Nesting) (tokens : List Token) (e : ExprTree) (rest : List Token) → IsExpr tokens e rest → begins (is_sign ";") rest ≡ true → Comes (expr_in false around) tokens e (whole_entries around e) rest
value_given around tokens e [] p h = absurd (false≢true h)
value_given around tokens e (mark ∷ rest) p h =
    let is = is_sign-true ";" (symbol mark) h in
    let stop = semicolon_stops mark rest is in
    expr_is false around p stop.goes (rw is refl)

-- tokens of a form are read
pub form_given : {A : Type 0} (form : Form A) (behind : Range) (other : Bool) → Predicts other behind form → Given form behind
form_given (Made made) behind other v tokens a entries rest is_made h = comes_end made tokens
form_given Never behind other v tokens a entries rest g h = absurd g
form_given (Branch front entry yes' no') behind other v tokens a entries rest (is_yes {token = token} {others = others} {entries = es} f g) h =
    comes_yes (is_front front) entry (λ token. reads (yes' token)) (reads no') token (fits_front front token f) (form_given (yes' token) behind false (v.0 token) others a es rest g h)
form_given (Branch front entry yes' no') behind other v tokens a entries rest (is_no none g) h =
    comes_no (is_front front) entry (λ token. reads (yes' token)) (reads no') none (form_given no' behind true v.2 tokens a entries rest g h)
form_given (Then form next) behind other v tokens b entries rest (is_then {mid = mid} {a = a} {entries = es} {others = others} g k) h =
    let all = range_of (λ a. range behind (next a)) (some_tree form) in
    comes_then (λ a. reads (next a)) (reads form)
    (form_given form all false v.0 tokens a es mid g (in_within (range behind (next a)) all mid (v.2 a) (form_first (next a) behind false (v.1 a) mid b others rest k h)))
    (form_given (next a) behind false (v.1 a) mid b others rest k h)
form_given (As make form) behind other v tokens b entries rest (is_as {a = a} g) h = comes_as make (reads form) (form_given form behind false v tokens a entries rest g h)
form_given (Listed form) behind other v tokens as' entries rest l h =
    comes_ahead (listed with_first [] (reads form))
    (listed_given form behind (form_given form (with_symbol (Sign (codes ",")) behind) false v.1) v.0 (suc (length tokens)) tokens as' entries rest l h (omega arith))
form_given (Many front entry form) behind other v tokens as' entries rest m h =
    comes_ahead (many_in (is_front front) entry (λ token. reads (form token)))
    (many_given front entry form behind (λ token. form_given (form token) (with_front front behind) false (v.1 token)) (suc (length tokens)) tokens as' entries rest m h (omega arith))
form_given (Until test form) behind other v tokens as' entries rest u h =
    let inside = joined (range (Among []) form) behind in
    comes_ahead (until_in test (reads form))
    (until_given test form behind v.3 (form_given form inside false v.4)
    (λ tokens as' entries rest u h. form_first (Until test form) behind other v tokens as' entries rest u h) (suc (length tokens)) tokens as' entries rest u h (omega arith))
form_given (AType around) behind other v tokens type entries rest (is_part t) h = type_is around t (type_ends type rest (in_avoids goes_on behind rest v h))
form_given (AnExpr around) behind other v tokens e entries rest (is_part p) h = value_given around tokens e rest p (in_passes (is_sign ";") behind rest v h)
form_given (Stmts around) behind other v tokens stmts entries rest (is_part m) h = (arrives_stmts m).comes

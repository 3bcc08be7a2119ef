-- Behind a form no more tokens stand than before, and fewer where it has a token.
use Rattle.std.proofs.Common.{inl, inr, ℕ, ◌<◌, ◌≤◌, List, ◌∷◌, length, arith, le_refl}
use Rattle.def_token.specs.Lexical.{Token}
use Rattle.def_tree.specs.Limits.{Entry, type_entries}
use Rattle.def_tree.specs.Symbol.{Symbol}
use Rattle.def_tree.specs.TypeTree.{TypeTree, Word, Named}
use Rattle.law_tree.proofs.Covered.{type_covered, expr_covered}
use Rattle.std.specs.Prelude.{Bool}
use Rattle.law_stmts.proofs.StmtComes.{comes_shorter, stmts_are}
use Rattle.def_decl_reading.specs.Form.{Front, Form, Made, Never, Branch, Then, As, Listed, Many, Until, AType, AnExpr, Stmts}
use Rattle.law_decls.proofs.Gives.{Giving, is_made, is_part, is_yes, is_no, is_then, is_as, ListedBy, is_last, is_more, ManyBy, is_none, is_one, UntilBy, is_end, is_on, Gives, Eats}

-- no more tokens stand behind it
abbrev Shorter : {A : Type 0} → Giving A → Type 0
Shorter {A = A} G = (tokens : List Token) (a : A) (entries : List Entry) (rest : List Token) → G tokens a entries rest → length rest ≤ length tokens

module _ {A : Type 0} (Part : Giving A) (each : Shorter Part) where
  listed_shorter : Shorter (ListedBy Part)
  listed_shorter tokens as' entries rest (is_last {a = a} {entries = es} g) = each tokens a es rest g
  listed_shorter tokens as' entries rest (is_more {comma = comma} {behind = behind} {a = a} {more = more} {entries = es} {others = others} g c l) =
      omega (arith, each tokens a es (comma ∷ behind) g, listed_shorter behind more others rest l)

  until_shorter : (test : Symbol → Bool) → Shorter (UntilBy test Part)
  until_shorter test tokens as' entries rest (is_end h) = le_refl (length tokens)
  until_shorter test tokens as' entries rest (is_on {behind = behind} {a = a} {more = more} {entries = es} {others = others} n g u) =
      omega (arith, each tokens a es behind g, until_shorter test behind more others rest u)

many_shorter : {A : Type 0} (front : Front) (entry : Entry) (Part : Token → Giving A) → ((token : Token) → Shorter (Part token)) → Shorter (ManyBy front entry Part)
many_shorter front entry Part each tokens as' entries rest (is_none none) = le_refl (length tokens)
many_shorter front entry Part each tokens as' entries rest (is_one {token = token} {others = others} {behind = behind} {a = a} {more = more} {entries = es} {es = rests} h g m) =
    omega (arith, each token others a es behind g, many_shorter front entry Part each behind more rests rest m)

-- no more tokens stand behind a form
pub shorter : {A : Type 0} (form : Form A) → Shorter (Gives form)
shorter (Made made) tokens a entries rest is_made = le_refl (length tokens)
shorter Never tokens a entries rest g = absurd g
shorter (Branch front entry yes' no') tokens a entries rest (is_yes {token = token} {others = others} {entries = es} h g) = omega (arith, shorter (yes' token) others a es rest g)
shorter (Branch front entry yes' no') tokens a entries rest (is_no none g) = shorter no' tokens a entries rest g
shorter (Then form next) tokens b entries rest (is_then {mid = mid} {a = a} {entries = es} {others = others} g h) =
    omega (arith, shorter form tokens a es mid g, shorter (next a) mid b others rest h)
shorter (As make form) tokens b entries rest (is_as {a = a} g) = shorter form tokens a entries rest g
shorter (Listed form) tokens a entries rest g = listed_shorter (Gives form) (shorter form) tokens a entries rest g
shorter (Many front entry form) tokens a entries rest g = many_shorter front entry (λ token. Gives (form token)) (λ token. shorter (form token)) tokens a entries rest g
shorter (Until test form) tokens a entries rest g = until_shorter (Gives form) (shorter form) test tokens a entries rest g
shorter (AType around) tokens a entries rest (is_part t) = omega (arith, type_covered around.types t)
shorter (AnExpr around) tokens a entries rest (is_part e) = omega (arith, expr_covered around e)
shorter (Stmts around) tokens a entries rest (is_part m) = comes_shorter (stmts_are m around (length tokens) (length tokens) (le_refl (length tokens)) (le_refl (length tokens)))

-- a type has a token
type_some : (types : ℕ) (type : TypeTree) → 1 ≤ length (type_entries types type)
type_some types (Word word first path) = omega arith
type_some types (Named first args path) = omega arith

listed_less : {A : Type 0} (Part : Giving A) → Shorter (ListedBy Part) → ((tokens : List Token) (a : A) (entries : List Entry) (rest : List Token) → Part tokens a entries rest → length rest < length tokens)
    → (tokens : List Token) (as' : List A) (entries : List Entry) (rest : List Token) → ListedBy Part tokens as' entries rest → length rest < length tokens
listed_less Part few each tokens as' entries rest (is_last {a = a} {entries = es} g) = each tokens a es rest g
listed_less Part few each tokens as' entries rest (is_more {comma = comma} {behind = behind} {a = a} {more = more} {entries = es} {others = others} g c l) =
    omega (arith, each tokens a es (comma ∷ behind) g, few behind more others rest l)

-- fewer tokens stand behind a form that has one
pub less : {A : Type 0} (form : Form A) → Eats form → (tokens : List Token) (a : A) (entries : List Entry) (rest : List Token) → Gives form tokens a entries rest → length rest < length tokens
less (Made made) e tokens a entries rest g = absurd e
less Never e tokens a entries rest g = absurd g
less (Branch front entry yes' no') e tokens a entries rest (is_yes {token = token} {others = others} {entries = es} h g) = omega (arith, shorter (yes' token) others a es rest g)
less (Branch front entry yes' no') e tokens a entries rest (is_no none g) = less no' e tokens a entries rest g
less (Then form next) (inl e) tokens b entries rest (is_then {mid = mid} {a = a} {entries = es} {others = others} g h) =
    omega (arith, less form e tokens a es mid g, shorter (next a) mid b others rest h)
less (Then form next) (inr e) tokens b entries rest (is_then {mid = mid} {a = a} {entries = es} {others = others} g h) =
    omega (arith, shorter form tokens a es mid g, less (next a) (e a) mid b others rest h)
less (As make form) e tokens b entries rest (is_as {a = a} g) = less form e tokens a entries rest g
less (Listed form) e tokens a entries rest g = listed_less (Gives form) (listed_shorter (Gives form) (shorter form)) (less form e) tokens a entries rest g
less (Many front entry form) e tokens a entries rest g = absurd e
less (Until test form) e tokens a entries rest g = absurd e
less (AType around) e tokens a entries rest (is_part t) = omega (arith, type_covered around.types t, type_some around.types a)
less (AnExpr around) e tokens a entries rest g = absurd e
less (Stmts around) e tokens a entries rest g = absurd e

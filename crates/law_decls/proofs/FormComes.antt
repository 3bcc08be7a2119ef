-- A form is read where its tokens stand: how it is shown part by part.
use Rattle.std.proofs.Common.{◌≡◌, ℕ, zero, suc, ◌<◌, Bool, true, false, List, [], ◌∷◌, ◌++◌, length, refl, ap, subst, ◌∙◌, codes, arith, le_refl}
use Rattle.std.specs.List.{flat_map}
use Rattle.std.proofs.lemmas.Slice.Eq.{bytes_eq-Decides}
use Prim.Native.String.{String}
use Rattle.def_token.specs.Lexical.{Token}
use Rattle.def_tree.specs.ExprTree.{ExprTree}
use Rattle.def_tree.specs.Expressions.{IsExpr}
use Rattle.def_tree.specs.Limits.{Nesting, Entry, plain, type_entries, whole_entries, stmts_entries}
use Rattle.def_tree.specs.Part.{expr_goes_on, type_goes_on}
use Rattle.def_tree.specs.Statements.{AreStmts}
use Rattle.def_tree.specs.StmtTree.{StmtTrees}
use Rattle.def_tree.specs.Symbol.{Symbol, Sign, symbol, is_sign}
use Rattle.def_tree.specs.Types.{IsType}
use Rattle.def_tree.specs.TypeTree.{TypeTree}
use Rattle.def_module.specs.Entries.{listed_entries, more_listed_entries}
use Rattle.def_module.specs.Repetition.{AreMany, no_more, one_more, AreListed, last_one, and_more}
use Rattle.law_module.proofs.Forms.{one_of}
use Rattle.def_reading.specs.Cursor.{At}
use Rattle.def_reading.specs.Try.{Reads, Reader, try_then, try_as, assign_ends, listed}
use Rattle.law_exprs.proofs.ExprComes.{expr_is, type_is}
use Rattle.law_stmts.proofs.LocalComes.{listed_last, listed_more, comes_ahead}
use Rattle.law_stmts.proofs.StmtComes.{comes_shorter, stmts_are}
use Rattle.law_exprs.proofs.TryComes.{Comes, comes_end, comes_as, comes_then, comes_with, comes_yes, comes_no}
use Rattle.def_decl_reading.specs.Form.{Front, AName, ANumber, ANarrow, AText, ASign, is_front, Form, Made, Branch, Then, As, Listed, Many, Until, AType, AnExpr, Stmts, begins, with_first, many_in, unless_by, until_in, reads}
use Rattle.law_decls.proofs.FormShorter.{less}
use Rattle.law_decls.proofs.FormSound.{Holding}
use Rattle.law_decls.proofs.Gives.{Fits, is_made, is_part, is_yes, is_no, is_then, is_as, ListedBy, is_last, is_more, ManyBy, is_none, is_one, UntilBy, is_end, is_on, Gives, Eats}

-- the tokens of a form, which the reader comes to
pub record Arrives {A : Type 0} (form : Form A) (tokens : List Token) (a : A) (entries : List Entry) (rest : List Token) : Type 0 where
  pub gives : Gives form tokens a entries rest
  pub comes : Comes (reads form) tokens a entries rest

-- a token that is what it is to be passes the test
pub fits_front : (front : Front) (token : Token) → Fits front token → is_front front (symbol token) ≡ true
fits_front AName token h = rw h refl
fits_front ANumber token h = rw h refl
fits_front ANarrow token h = rw h refl
fits_front AText token h = rw h refl
fits_front (ASign sign) token h = ap (is_sign sign) h ∙ (bytes_eq-Decides (codes sign) (codes sign)).1 refl

-- nothing, with its tree
pub arrives_made : {A : Type 0} {a : A} {tokens : List Token} → Arrives (Made a) tokens a [] tokens
arrives_made {a = a} {tokens = tokens} = record { gives = is_made; comes = comes_end a tokens }

-- a token that is what it is to be, and what stands behind it
pub arrives_yes : {A : Type 0} {front : Front} {entry : Entry} {yes' : Token → Form A} {no' : Form A} {token : Token} {others rest : List Token} {a : A} {entries : List Entry}
    → Fits front token → Arrives (yes' token) others a entries rest → Arrives (Branch front entry yes' no') (token ∷ others) a (entry ∷ entries) rest
arrives_yes {front = front} {entry = entry} {yes' = yes'} {no' = no'} {token = token} h c =
    record { gives = is_yes h c.gives; comes = comes_yes (is_front front) entry (λ token. reads (yes' token)) (reads no') token (fits_front front token h) c.comes }

-- another form without such a token
pub arrives_no : {A : Type 0} {front : Front} {entry : Entry} {yes' : Token → Form A} {no' : Form A} {tokens rest : List Token} {a : A} {entries : List Entry}
    → begins (is_front front) tokens ≡ false → Arrives no' tokens a entries rest → Arrives (Branch front entry yes' no') tokens a entries rest
arrives_no {front = front} {entry = entry} {yes' = yes'} {no' = no'} h c =
    record { gives = is_no h c.gives; comes = comes_no (is_front front) entry (λ token. reads (yes' token)) (reads no') h c.comes }

-- a form and one behind it
pub arrives_then : {A B : Type 0} {form : Form A} {next : A → Form B} {tokens mid rest : List Token} {a : A} {b : B} {entries others : List Entry}
    → Arrives form tokens a entries mid → Arrives (next a) mid b others rest → Arrives (Then form next) tokens b (entries ++ others) rest
arrives_then {form = form} {next = next} c d =
    record { gives = is_then c.gives d.gives; comes = comes_then (λ a. reads (next a)) (reads form) c.comes d.comes }

-- a tree made of another
pub arrives_as : {A B : Type 0} {make : A → B} {form : Form A} {tokens rest : List Token} {a : A} {entries : List Entry}
    → Arrives form tokens a entries rest → Arrives (As make form) tokens (make a) entries rest
arrives_as {make = make} {form = form} c = record { gives = is_as c.gives; comes = comes_as make (reads form) c.comes }

-- the entries written in another way
pub arrives_with : {A : Type 0} {form : Form A} {tokens rest : List Token} {a : A} {entries others : List Entry} → entries ≡ others → Arrives form tokens a entries rest → Arrives form tokens a others rest
arrives_with {form = form} {tokens = tokens} {rest = rest} {a = a} same c = subst (λ es. Arrives form tokens a es rest) same c

-- types, expressions and statements
pub arrives_type : {around : Nesting} {tokens rest : List Token} {type : TypeTree} → IsType tokens type rest → type_goes_on type rest ≡ false
    → Arrives (AType around) tokens type (type_entries around.types type) rest
arrives_type {around = around} t end = record { gives = is_part t; comes = type_is around t end }

pub arrives_expr : {around : Nesting} {tokens rest : List Token} {e : ExprTree} → IsExpr tokens e rest → expr_goes_on rest ≡ false → assign_ends false rest ≡ false
    → Arrives (AnExpr around) tokens e (whole_entries around e) rest
arrives_expr {around = around} e end none = record { gives = is_part e; comes = expr_is false around e end none }

pub arrives_stmts : {around : Nesting} {tokens rest : List Token} {stmts : StmtTrees} → AreStmts tokens stmts rest → Arrives (Stmts around) tokens stmts (stmts_entries around stmts) rest
arrives_stmts {around = around} {tokens = tokens} m =
    record {
      gives = is_part m;
      comes = record { comes = λ at limit reach. (stmts_are m around (suc (length tokens)) (length tokens) (omega arith) (le_refl (length tokens))).comes at limit reach };
    }

-- a form arrives where none of these signs stands behind it
abbrev pub Arriving : {A : Type 0} → Holding A → Form A → (A → List Entry) → List String → Type 0
Arriving {A = A} IsForm form entries_of stops =
    (tokens rest : List Token) (a : A) → IsForm tokens a rest → begins (one_of stops) rest ≡ false → Arrives form tokens a (entries_of a) rest

-- forms with a comma between them
module _ {A : Type 0} {IsForm : Holding A} {form : Form A} (entries_of : A → List Entry) (stops : List String) (each : Arriving IsForm form entries_of stops) (comma_stops : one_of stops (Sign (codes ",")) ≡ false) where
  listed_same : (tokens rest : List Token) (as' : List A) → AreListed IsForm tokens as' rest → plain ∷ listed_entries entries_of as' ≡ more_listed_entries entries_of as'
  listed_same tokens rest as' (last_one p) = refl
  listed_same tokens rest as' (and_more p c l) = refl

  record Arrived (turns : ℕ) (tokens : List Token) (as' : List A) (rest : List Token) : Type 0 where
    gives : ListedBy (Gives form) tokens as' (listed_entries entries_of as') rest
    comes : Comes (listed with_first [] (reads form) turns) tokens as' (listed_entries entries_of as') rest

  listed_turns : (turns : ℕ) (tokens rest : List Token) (as' : List A) → AreListed IsForm tokens as' rest → begins (is_sign ",") rest ≡ false → begins (one_of stops) rest ≡ false → length tokens < turns
      → Arrived turns tokens as' rest
  listed_turns zero tokens rest as' l c s few = absurd (omega (arith, few))
  listed_turns (suc turns) tokens rest as' (last_one {form = one} p) c s few =
      let first = each tokens rest one p s in
      record { gives = is_last first.gives; comes = listed_last with_first [] (reads form) turns first.comes c }
  listed_turns (suc turns) tokens rest as' (and_more {comma = comma} {behind = behind} {form = one} {forms = more} p h l) c s few =
      let first = each tokens (comma ∷ behind) one p (rw h comma_stops) in
      let others = listed_turns turns behind rest more l c s (omega (arith, few, comes_shorter first.comes)) in
      let same = ap (λ es. entries_of one ++ es) (listed_same behind rest more l) in
      record {
        gives = subst (λ es. ListedBy (Gives form) tokens (one ∷ more) es rest) same (is_more first.gives h others.gives);
        comes = comes_with (listed with_first [] (reads form) (suc turns)) _ _ same (listed_more with_first [] (reads form) turns comma first.comes h others.comes);
      }

  pub arrives_listed : {tokens rest : List Token} {as' : List A} → AreListed IsForm tokens as' rest → begins (is_sign ",") rest ≡ false → begins (one_of stops) rest ≡ false
      → Arrives (Listed form) tokens as' (listed_entries entries_of as') rest
  arrives_listed {tokens = tokens} {rest = rest} {as' = as'} l c s =
      let all = listed_turns (suc (length tokens)) tokens rest as' l c s (omega arith) in
      record { gives = all.gives; comes = comes_ahead (listed with_first [] (reads form)) all.comes }

-- forms that each begin with a token of one kind
pub data Begun {A : Type 0} (front : Front) (entry : Entry) (form : Token → Form A) : List Token → A → List Entry → List Token → Type 0 where
  begun : {token : Token} {others rest : List Token} {a : A} {entries : List Entry} → Fits front token → Arrives (form token) others a entries rest
      → Begun front entry form (token ∷ others) a (entry ∷ entries) rest

module _ {A : Type 0} {IsForm : Holding A} {front : Front} {entry : Entry} {form : Token → Form A} (entries_of : A → List Entry) (stops : List String)
    (each : (tokens rest : List Token) (a : A) → IsForm tokens a rest → begins (one_of stops) rest ≡ false → Begun front entry form tokens a (entries_of a) rest)
    (goes : (tokens rest : List Token) (a : A) → IsForm tokens a rest → begins (one_of stops) tokens ≡ false) where
  abbrev more_many : ℕ → A → Reader (List A)
  more_many turns first reach place = try_as (with_first first) (many_in (is_front front) entry (λ token. reads (form token)) turns reach place)

  abbrev first_many : ℕ → Token → Reader (List A)
  first_many turns token reach place = try_then (more_many turns) (reads (form token) reach place)

  record ArrivedMany (turns : ℕ) (tokens : List Token) (as' : List A) (entries : List Entry) (rest : List Token) : Type 0 where
    gives : ManyBy front entry (λ token. Gives (form token)) tokens as' entries rest
    comes : Comes (many_in (is_front front) entry (λ token. reads (form token)) turns) tokens as' entries rest

  behind_form : (tokens rest : List Token) (as' : List A) → AreMany IsForm tokens as' rest → begins (one_of stops) rest ≡ false → begins (one_of stops) tokens ≡ false
  behind_form tokens rest as' no_more s = s
  behind_form tokens rest as' (one_more {behind = behind} {form = one} p m) s = goes tokens behind one p

  many_first : (turns : ℕ) (tokens behind rest : List Token) (one : A) (more : List A) (es others : List Entry) → Begun front entry form tokens one es behind → length tokens < suc turns
      → (length behind < turns → ArrivedMany turns behind more others rest) → ArrivedMany (suc turns) tokens (one ∷ more) (es ++ others) rest
  many_first turns tokens behind rest one more es others (begun {token = token} {others = ts} {entries = entries} h c) few f =
      let m = f (omega (arith, few, comes_shorter c.comes)) in
      record {
        gives = is_one h c.gives m.gives;
        comes = comes_yes (is_front front) entry (first_many turns) (λ reach place. Reads [] place reach) token (fits_front front token h)
            (comes_then (more_many turns) (reads (form token)) c.comes (comes_as (with_first one) (many_in (is_front front) entry (λ token. reads (form token)) turns) m.comes));
      }

  many_turns : (turns : ℕ) (tokens rest : List Token) (as' : List A) → AreMany IsForm tokens as' rest → begins (is_front front) rest ≡ false → begins (one_of stops) rest ≡ false → length tokens < turns
      → ArrivedMany turns tokens as' (flat_map entries_of as') rest
  many_turns zero tokens rest as' m n s few = absurd (omega (arith, few))
  many_turns (suc turns) tokens rest as' no_more n s few =
      record { gives = is_none n; comes = comes_no (is_front front) entry (first_many turns) (λ reach place. Reads [] place reach) n (comes_end [] tokens) }
  many_turns (suc turns) tokens rest as' (one_more {behind = behind} {form = one} {forms = more} p m) n s few =
      many_first turns tokens behind rest one more (entries_of one) (flat_map entries_of more) (each tokens behind one p (behind_form behind rest more m s)) few
      (λ few. many_turns turns behind rest more m n s few)

  pub arrives_many : {tokens rest : List Token} {as' : List A} → AreMany IsForm tokens as' rest → begins (is_front front) rest ≡ false → begins (one_of stops) rest ≡ false
      → Arrives (Many front entry form) tokens as' (flat_map entries_of as') rest
  arrives_many {tokens = tokens} {rest = rest} {as' = as'} m n s =
      let all = many_turns (suc (length tokens)) tokens rest as' m n s (omega arith) in
      record { gives = all.gives; comes = comes_ahead (many_in (is_front front) entry (λ token. reads (form token))) all.comes }

-- forms up to a token that passes a test
module _ {A : Type 0} {IsForm : Holding A} {form : Form A} (test : Symbol → Bool) (entries_of : A → List Entry) (stops : List String) (each : Arriving IsForm form entries_of stops)
    (goes : (tokens rest : List Token) (a : A) → IsForm tokens a rest → begins (one_of stops) tokens ≡ false) (none : (tokens rest : List Token) (a : A) → IsForm tokens a rest → begins test tokens ≡ false)
    (eats : Eats form) where
  abbrev more_until : ℕ → A → Reader (List A)
  more_until turns first reach place = try_as (with_first first) (until_in test (reads form) turns reach place)

  abbrev first_until : ℕ → Reader (List A)
  first_until turns reach place = try_then (more_until turns) (reads form reach place)

  record ArrivedUntil (turns : ℕ) (tokens : List Token) (as' : List A) (entries : List Entry) (rest : List Token) : Type 0 where
    gives : UntilBy test (Gives form) tokens as' entries rest
    comes : Comes (until_in test (reads form) turns) tokens as' entries rest

  behind_until : (tokens rest : List Token) (as' : List A) → AreMany IsForm tokens as' rest → begins (one_of stops) rest ≡ false → begins (one_of stops) tokens ≡ false
  behind_until tokens rest as' no_more s = s
  behind_until tokens rest as' (one_more {behind = behind} {form = one} p m) s = goes tokens behind one p

  until_turns : (turns : ℕ) (tokens rest : List Token) (as' : List A) → AreMany IsForm tokens as' rest → begins test rest ≡ true → begins (one_of stops) rest ≡ false → length tokens < turns
      → ArrivedUntil turns tokens as' (flat_map entries_of as') rest
  until_turns zero tokens rest as' m n s few = absurd (omega (arith, few))
  until_turns (suc turns) tokens rest as' no_more n s few =
      record {
        gives = is_end n;
        comes = record { comes = λ at limit reach. record { at = at; limit = limit; reach = reach; is = ap (λ b. unless_by b (first_until turns) reach (At at limit tokens)) n; passes = λ h. refl } };
      }
  until_turns (suc turns) tokens rest as' (one_more {behind = behind} {form = one} {forms = more} p m) n s few =
      let first = each tokens behind one p (behind_until behind rest more m s) in
      let stays = none tokens behind one p in
      let all = until_turns turns behind rest more m n s (omega (arith, few, less form eats tokens one (entries_of one) behind first.gives)) in
      let c = comes_then (more_until turns) (reads form) first.comes (comes_as (with_first one) (until_in test (reads form) turns) all.comes) in
      record {
        gives = is_on stays first.gives all.gives;
        comes = record {
          comes = λ at limit reach.
              let g = c.comes at limit reach in
              record { at = g.at; limit = g.limit; reach = g.reach; is = ap (λ b. unless_by b (first_until turns) reach (At at limit tokens)) stays ∙ g.is; passes = g.passes };
        };
      }

  pub arrives_until : {tokens rest : List Token} {as' : List A} → AreMany IsForm tokens as' rest → begins test rest ≡ true → begins (one_of stops) rest ≡ false
      → Arrives (Until test form) tokens as' (flat_map entries_of as') rest
  arrives_until {tokens = tokens} {rest = rest} {as' = as'} m n s =
      let all = until_turns (suc (length tokens)) tokens rest as' m n s (omega arith) in
      record { gives = all.gives; comes = comes_ahead (until_in test (reads form)) all.comes }

-- What tokens of a form begin with, by what they stand before; and forms that are read by the next token.
use Rattle.std.proofs.Common.{◌≡◌, Bool, true, false, List, [], ◌∷◌, refl, codes}
use Rattle.std.specs.Prelude.{Option, Some, None, map}
use Rattle.def_token.specs.Lexical as lexical
use Rattle.def_token.specs.Lexical.{Token}
use Rattle.def_tree.specs.ExprTree as expr
use Rattle.def_tree.specs.Limits.{Entry}
use Rattle.def_tree.specs.StmtTree.{NoStmts}
use Rattle.def_tree.specs.Symbol.{Symbol, Name, Number, Text, Sign, symbol, is_sign, is_wide}
use Rattle.def_tree.specs.Types.{IsType, of_word, of_name, of_generic}
use Rattle.def_tree.specs.TypeTree.{TypeWord, Int, Word, TypeTree, type_words, word_text}
use Rattle.law_module.proofs.Forms.{one_of}
use Rattle.law_module.proofs.Parts.{type_stops}
use Rattle.law_stmts.proofs.LocalTraced.{mark}
use Rattle.law_machine.proofs.MachineCloses.{number, some_name}
use Rattle.def_decl_reading.specs.Form.{Front, AName, ANumber, ANarrow, AText, ASign, is_front, Form, Made, Never, Branch, Then, As, Listed, Many, Until, AType, AnExpr, Stmts}
use Rattle.law_decls.proofs.Gives.{Fits, is_made, is_part, is_yes, is_no, is_then, is_as, is_last, is_more, is_none, is_one, UntilBy, is_end, is_on, Gives, Eats}
use Rattle.law_tree.proofs.Words.{every_word}
use Rattle.law_decls.proofs.Range.{among, Range, Anything, Among, In, with_symbol, joined, within, avoids, passes, in_within, in_with, in_first, in_left, in_right}

-- a token that is what it is to be
abbrev pub front_token : Front → Token
front_token AName = some_name
front_token ANumber = number
front_token ANarrow = number
front_token AText = record { kind = lexical.Text; text = []; start = 0; end = 0; place = record { line = 1; column = 1 } }
front_token (ASign sign) = mark sign

-- such a token is what it is to be
pub token_fits : (front : Front) → Fits front (front_token front)
token_fits AName = refl
token_fits ANumber = refl
token_fits ANarrow = refl
token_fits AText = refl
token_fits (ASign sign) = refl

-- the range with what a token is to be
abbrev pub with_front : Front → Range → Range
with_front AName range = with_symbol Name range
with_front ANumber range = with_symbol (Number false) (with_symbol (Number true) range)
with_front ANarrow range = with_symbol (Number false) range
with_front AText range = with_symbol Text range
with_front (ASign sign) range = with_symbol (Sign (codes sign)) range

-- tokens in a range are in it with what a token is to be
pub in_with_front : (front : Front) (range : Range) (tokens : List Token) → In range tokens → In (with_front front range) tokens
in_with_front AName range tokens h = in_with Name range tokens h
in_with_front ANumber range tokens h = in_with (Number false) (with_symbol (Number true) range) tokens (in_with (Number true) range tokens h)
in_with_front ANarrow range tokens h = in_with (Number false) range tokens h
in_with_front AText range tokens h = in_with Text range tokens h
in_with_front (ASign sign) range tokens h = in_with (Sign (codes sign)) range tokens h

number_in : (wide : Bool) (range : Range) (token : Token) (tokens : List Token) → symbol token ≡ Number wide → In (with_front ANumber range) (token ∷ tokens)
number_in true range token tokens h =
    in_with (Number false) (with_symbol (Number true) range) (token ∷ tokens) (in_first (Number true) range token tokens h)
number_in false range token tokens h = in_first (Number false) (with_symbol (Number true) range) token tokens h

-- tokens that begin with what a token is to be are in the range with it
pub in_first_front : (front : Front) (range : Range) (token : Token) (tokens : List Token) → Fits front token → In (with_front front range) (token ∷ tokens)
in_first_front AName range token tokens h = in_first Name range token tokens h
in_first_front ANumber range token tokens h = number_in (is_wide token.text) range token tokens h
in_first_front ANarrow range token tokens h = in_first (Number false) range token tokens h
in_first_front AText range token tokens h = in_first Text range token tokens h
in_first_front (ASign sign) range token tokens h = in_first (Sign (codes sign)) range token tokens h

-- a tree behind another, or made of one, if there is one
abbrev tree_then : {A B : Type 0} → (A → Option B) → Option A → Option B
tree_then next None = None
tree_then next (Some a) = next a

-- a tree made of another, if there is one
abbrev tree_as : {A B : Type 0} → (A → B) → Option A → Option B
tree_as make None = None
tree_as make (Some a) = Some (make a)

-- a tree of a form, if it has one
abbrev pub some_tree : {A : Type 0} → Form A → Option A
some_tree (Made made) = Some made
some_tree Never = None
some_tree (Branch front entry yes' no') = some_tree (yes' (front_token front))
some_tree (Then form next) = tree_then (λ a. some_tree (next a)) (some_tree form)
some_tree (As make form) = tree_as make (some_tree form)
some_tree (Listed form) = tree_as (λ a. a ∷ []) (some_tree form)
some_tree (Many front entry form) = Some []
some_tree (Until test form) = Some []
some_tree (AType around) = Some (Word Int (mark "int") [])
some_tree (AnExpr around) = Some (expr.Number number)
some_tree (Stmts around) = Some NoStmts

-- what types begin with
abbrev pub type_symbols : List Symbol
type_symbols = Name ∷ map (λ word. Sign (codes (word_text word))) type_words

-- the range of what stands behind a form, by one of its trees
abbrev pub range_of : {A : Type 0} → (A → Range) → Option A → Range
range_of range None = Anything
range_of range (Some a) = range a

-- what a form begins with, before what begins so
abbrev pub range : {A : Type 0} → Range → Form A → Range
range behind (Made made) = behind
range behind Never = Among []
range behind (Branch front entry yes' no') = with_front front (range behind no')
range behind (Then form next) = range (range_of (λ a. range behind (next a)) (some_tree form)) form
range behind (As make form) = range behind form
range behind (Listed form) = range (with_symbol (Sign (codes ",")) behind) form
range behind (Many front entry form) = with_front front behind
range behind (Until test form) = joined (range (Among []) form) behind
range behind (AType around) = Among type_symbols
range behind (AnExpr around) = Anything
range behind (Stmts around) = Anything

-- a sign with which a type goes on
abbrev pub goes_on : Symbol → Bool
goes_on = one_of type_stops

-- The next token tells how a form goes on, where what stands behind the form begins so. Each form has tokens, but Never,
-- which stands only where there is another choice. Forms up to a token have a token each. Types do not go on with what
-- stands behind them, and expressions stand before a semicolon.
abbrev pub Predicts : {A : Type 0} → Bool → Range → Form A → Type 0
Predicts other behind (Made made) = Unit {0}
Predicts other behind Never = other ≡ true
Predicts other behind (Branch front entry yes' no') =
    ((token : Token) → Predicts false behind (yes' token)) × (avoids (is_front front) (range behind no') ≡ true) × Predicts true behind no'
Predicts other behind (Then {A = A} form next) =
    let mid = range_of (λ a. range behind (next a)) (some_tree form) in
    Predicts false mid form × ((a : A) → Predicts false behind (next a)) × ((a : A) → within (range behind (next a)) mid ≡ true)
Predicts other behind (As make form) = Predicts false behind form
Predicts other behind (Listed form) = (avoids (is_sign ",") behind ≡ true) × Predicts false (with_symbol (Sign (codes ",")) behind) form
Predicts other behind (Many front entry form) =
    (avoids (is_front front) behind ≡ true) × ((token : Token) → Predicts false (with_front front behind) (form token))
Predicts other behind (Until test form) =
    let first = range (Among []) form in
    (passes test behind ≡ true) × (avoids test first ≡ true) × (within (range (joined first behind) form) first ≡ true)
    × Eats form × Predicts false (joined first behind) form
Predicts other behind (AType around) = avoids goes_on behind ≡ true
Predicts other behind (AnExpr around) = passes (is_sign ";") behind ≡ true
Predicts other behind (Stmts around) = Unit {0}

word_in_range : (word : TypeWord) → among type_symbols (Sign (codes (word_text word))) ≡ true
word_in_range = every_word (λ word. among type_symbols (Sign (codes (word_text word))) ≡ true) (refl, (refl, (refl, (refl, (refl, (refl, (refl, (refl, tt))))))))

-- types begin so
pub type_in_range : {tokens rest : List Token} {type : TypeTree} → IsType tokens type rest → In (Among type_symbols) tokens
type_in_range (of_word {word = word} {first = first} {tokens = tokens} h p) = rw h (word_in_range word)
type_in_range (of_name h p) = rw h refl
type_in_range (of_generic h a p) = rw h refl

-- forms up to a token that passes a test begin with a form, or as what stands behind them
until_first : {A : Type 0} (test : Symbol → Bool) (form : Form A) (behind : Range)
    → ((tokens : List Token) (a : A) (entries : List Entry) (rest : List Token) → Gives form tokens a entries rest → In (joined (range (Among []) form) behind) rest → In (range (joined (range (Among []) form) behind) form) tokens)
    → within (range (joined (range (Among []) form) behind) form) (range (Among []) form) ≡ true
    → (tokens : List Token) (as' : List A) (entries : List Entry) (rest : List Token) → UntilBy test (Gives form) tokens as' entries rest → In behind rest → In (joined (range (Among []) form) behind) tokens
until_first test form behind first w tokens as' entries rest (is_end e) h = in_right (range (Among []) form) behind tokens h
until_first test form behind first w tokens as' entries rest (is_on {behind = mid} {a = a} {more = more} {entries = es} {others = others} n g u) h =
    in_left (range (Among []) form) behind tokens
    (in_within (range (joined (range (Among []) form) behind) form) (range (Among []) form) tokens w (first tokens a es mid g (until_first test form behind first w mid more others rest u h)))

-- tokens of a form begin so
pub form_first : {A : Type 0} (form : Form A) (behind : Range) (other : Bool) → Predicts other behind form → (tokens : List Token) (a : A) (entries : List Entry) (rest : List Token) → Gives form tokens a entries rest → In behind rest
    → In (range behind form) tokens
form_first (Made made) behind other v tokens a entries rest is_made h = h
form_first Never behind other v tokens a entries rest g h = absurd g
form_first (Branch front entry yes' no') behind other v tokens a entries rest (is_yes {token = token} {others = others} f g) h = in_first_front front (range behind no') token others f
form_first (Branch front entry yes' no') behind other v tokens a entries rest (is_no none g) h = in_with_front front (range behind no') tokens (form_first no' behind true v.2 tokens a entries rest g h)
form_first (Then form next) behind other v tokens b entries rest (is_then {mid = mid} {a = a} {entries = es} {others = others} g k) h =
    let all = range_of (λ a. range behind (next a)) (some_tree form) in
    form_first form all false v.0 tokens a es mid g (in_within (range behind (next a)) all mid (v.2 a) (form_first (next a) behind false (v.1 a) mid b others rest k h))
form_first (As make form) behind other v tokens b entries rest (is_as {a = a} g) h = form_first form behind false v tokens a entries rest g h
form_first (Listed form) behind other v tokens as' entries rest (is_last {a = a} {entries = es} g) h = form_first form (with_symbol (Sign (codes ",")) behind) false v.1 tokens a es rest g (in_with (Sign (codes ",")) behind rest h)
form_first (Listed form) behind other v tokens as' entries rest (is_more {comma = comma} {behind = after} {a = a} {entries = es} g c l) h =
    form_first form (with_symbol (Sign (codes ",")) behind) false v.1 tokens a es (comma ∷ after) g (in_first (Sign (codes ",")) behind comma after c)
form_first (Many front entry form) behind other v tokens as' entries rest (is_none none) h = in_with_front front behind tokens h
form_first (Many front entry form) behind other v tokens as' entries rest (is_one {token = token} {others = others} f g m) h = in_first_front front behind token others f
form_first (Until test form) behind other v tokens as' entries rest u h =
    until_first test form behind (λ tokens a es rest g k. form_first form (joined (range (Among []) form) behind) false v.4 tokens a es rest g k) v.2 tokens as' entries rest u h
form_first (AType around) behind other v tokens a entries rest (is_part t) h = type_in_range t
form_first (AnExpr around) behind other v tokens a entries rest g h = tt
form_first (Stmts around) behind other v tokens a entries rest g h = tt

-- The tokens of a form: with its tree, the limits of the tree, and the tokens behind them.
use Rattle.std.proofs.Common.{◌≡◌, ◌⊎◌, Bool, true, false, List, [], ◌∷◌, ◌++◌}
use Rattle.def_token.specs.Lexical.{Token}
use Rattle.def_tree.specs.Expressions.{IsExpr}
use Rattle.def_tree.specs.Limits.{Entry, plain, type_entries, whole_entries, stmts_entries}
use Rattle.def_tree.specs.Statements.{AreStmts}
use Rattle.def_tree.specs.Symbol.{Symbol, Text, symbol, Is, IsName, IsNarrow, IsNumeral}
use Rattle.def_tree.specs.Types.{IsType}
use Rattle.def_decl_reading.specs.Form.{Front, AName, ANumber, ANarrow, AText, ASign, Form, Made, Never, Branch, Then, As, Listed, Many, Until, AType, AnExpr, Stmts, begins, is_front}

-- tokens, a tree, its entries, and the tokens behind it
abbrev pub Giving : Type 0 → Type 1
Giving A = List Token → A → List Entry → List Token → Type 0

-- the token is what it is to be
abbrev pub Fits : Front → Token → Type 0
Fits AName token = IsName token
Fits ANumber token = IsNumeral token
Fits ANarrow token = IsNarrow token
Fits AText token = symbol token ≡ Text
Fits (ASign sign) token = Is sign token

-- the tree is known
pub data MadeBy {A : Type 0} (made : A) : List Token → A → List Entry → List Token → Type 0 where
  is_made : {tokens : List Token} → MadeBy made tokens made [] tokens

-- the tokens of a part of the grammar
pub data PartBy {A : Type 0} (IsPart : List Token → A → List Token → Type 0) (entries_of : A → List Entry) : List Token → A → List Entry → List Token → Type 0 where
  is_part : {tokens rest : List Token} {a : A} → IsPart tokens a rest → PartBy IsPart entries_of tokens a (entries_of a) rest

-- a token that is what it is to be, and what stands behind it, or else another form
pub data BranchBy {A : Type 0} (front : Front) (entry : Entry) (Yes : Token → Giving A) (No : Giving A) : List Token → A → List Entry → List Token → Type 0 where
  is_yes : {token : Token} {others rest : List Token} {a : A} {entries : List Entry} → Fits front token → Yes token others a entries rest
      → BranchBy front entry Yes No (token ∷ others) a (entry ∷ entries) rest
  is_no : {tokens rest : List Token} {a : A} {entries : List Entry} → begins (is_front front) tokens ≡ false → No tokens a entries rest → BranchBy front entry Yes No tokens a entries rest

-- a form and one behind it
pub data ThenBy {A B : Type 0} (First : Giving A) (Next : A → Giving B) : List Token → B → List Entry → List Token → Type 0 where
  is_then : {tokens mid rest : List Token} {a : A} {b : B} {entries others : List Entry} → First tokens a entries mid → Next a mid b others rest → ThenBy First Next tokens b (entries ++ others) rest

-- a tree made of another
pub data AsBy {A B : Type 0} (make : A → B) (Whole : Giving A) : List Token → B → List Entry → List Token → Type 0 where
  is_as : {tokens rest : List Token} {a : A} {entries : List Entry} → Whole tokens a entries rest → AsBy make Whole tokens (make a) entries rest

-- forms with a comma between them
pub data ListedBy {A : Type 0} (Part : Giving A) : List Token → List A → List Entry → List Token → Type 0 where
  is_last : {tokens rest : List Token} {a : A} {entries : List Entry} → Part tokens a entries rest → ListedBy Part tokens (a ∷ []) (entries ++ []) rest
  is_more : {comma : Token} {tokens behind rest : List Token} {a : A} {more : List A} {entries others : List Entry} → Part tokens a entries (comma ∷ behind) → Is "," comma
      → ListedBy Part behind more others rest → ListedBy Part tokens (a ∷ more) (entries ++ plain ∷ others) rest

-- forms that each begin with a token of one kind
pub data ManyBy {A : Type 0} (front : Front) (entry : Entry) (Part : Token → Giving A) : List Token → List A → List Entry → List Token → Type 0 where
  is_none : {tokens : List Token} → begins (is_front front) tokens ≡ false → ManyBy front entry Part tokens [] [] tokens
  is_one : {token : Token} {others behind rest : List Token} {a : A} {more : List A} {entries es : List Entry} → Fits front token → Part token others a entries behind
      → ManyBy front entry Part behind more es rest → ManyBy front entry Part (token ∷ others) (a ∷ more) (entry ∷ (entries ++ es)) rest

-- forms up to a token that passes a test
pub data UntilBy {A : Type 0} (test : Symbol → Bool) (Part : Giving A) : List Token → List A → List Entry → List Token → Type 0 where
  is_end : {tokens : List Token} → begins test tokens ≡ true → UntilBy test Part tokens [] [] tokens
  is_on : {tokens behind rest : List Token} {a : A} {more : List A} {entries others : List Entry} → begins test tokens ≡ false → Part tokens a entries behind
      → UntilBy test Part behind more others rest → UntilBy test Part tokens (a ∷ more) (entries ++ others) rest

-- the tokens of a form
abbrev pub Gives : {A : Type 0} → Form A → Giving A
Gives (Made made) = MadeBy made
Gives Never = λ tokens a entries rest. ⊥
Gives (Branch front entry yes' no') = BranchBy front entry (λ token. Gives (yes' token)) (Gives no')
Gives (Then form next) = ThenBy (Gives form) (λ a. Gives (next a))
Gives (As make form) = AsBy make (Gives form)
Gives (Listed form) = ListedBy (Gives form)
Gives (Many front entry form) = ManyBy front entry (λ token. Gives (form token))
Gives (Until test form) = UntilBy test (Gives form)
Gives (AType around) = PartBy IsType (type_entries around.types)
Gives (AnExpr around) = PartBy IsExpr (whole_entries around)
Gives (Stmts around) = PartBy AreStmts (stmts_entries around)

-- the form has a token
abbrev pub Eats : {A : Type 0} → Form A → Type 0
Eats (Made made) = ⊥
Eats Never = Unit {0}
Eats (Branch front entry yes' no') = Eats no'
Eats (Then {A = A} form next) = Eats form ⊎ ((a : A) → Eats (next a))
Eats (As make form) = Eats form
Eats (Listed form) = Eats form
Eats (Many front entry form) = ⊥
Eats (Until test form) = ⊥
Eats (AType around) = Unit {0}
Eats (AnExpr around) = ⊥
Eats (Stmts around) = ⊥

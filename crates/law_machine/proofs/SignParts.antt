-- The tokens of operators, and what their signs hang on.
use Rattle.std.proofs.Common.{◌≡◌, ℕ, Bool, true, false, List, [], ◌∷◌, refl, sym, ap, subst, ◌∙◌, codes}
use Rattle.std.specs.Prelude.{Some}
use Rattle.std.proofs.lemmas.Bool.{false≢true, and_parts}
use Prim.Native.String.{String}
use Rattle.def_token.specs.Lexical.{Token}
use Rattle.def_tree.specs.Operator.{Operator, operators, operator_text, Greater, GreaterEqual, ShiftRight, SignAt, sign_at, sign_text, after_one, after_two, joins}
use Rattle.def_tree.specs.Symbol.{End, symbol, is_sign, Is, touches}
use Rattle.law_tree.proofs.OperatorSigns.{sign_by}
use Rattle.law_tree.proofs.Symbols.{is_sign-true}
use Rattle.def_reading.specs.Machine.{written}
use Rattle.law_machine.proofs.SignsBehind.{two_by, one_by}
use Rattle.law_machine.proofs.MachineSigns.{operator_found, sign_is}

some_same : (a b : Operator) → Some a ≡ Some b → a ≡ b
some_same a b h = cc

pub operator_same : (op other : Operator) → codes (operator_text op) ≡ codes (operator_text other) → op ≡ other
operator_same op other h = some_same op other (sym (operator_found op) ∙ ap (written operator_text operators) h ∙ operator_found other)

-- no first token of these joins a mark as this sign
abbrev pub Apart : Token → List Token → Type 0
Apart t [] = Unit {0}
Apart t (p ∷ ts) = (joins t ">" p ≡ false) × (joins t "=" p ≡ false)

abbrev pub NoEqual : Token → List Token → Type 0
NoEqual p [] = Unit {0}
NoEqual p (q ∷ ts) = joins p "=" q ≡ false

-- an operator by its tokens
pub data SignParts (t : Token) (ts : List Token) (op : Operator) (behind : List Token) : Type 0 where
  one_token : is_sign ">" (symbol t) ≡ false → (symbol t ≡ End → ⊥) → ((more : List Token) → sign_at (t ∷ more) ≡ (codes (operator_text op), more)) → behind ≡ ts → SignParts t ts op behind
  greater : Is ">" t → op ≡ Greater → behind ≡ ts → Apart t ts → SignParts t ts op behind
  greater_equal : Is ">" t → (p : Token) → ts ≡ p ∷ behind → joins t ">" p ≡ false → joins t "=" p ≡ true → op ≡ GreaterEqual → SignParts t ts op behind
  shift : Is ">" t → (p : Token) → ts ≡ p ∷ behind → joins t ">" p ≡ true → NoEqual p behind → op ≡ ShiftRight → SignParts t ts op behind

no_operator : (op : Operator) → codes ">>=" ≡ codes (operator_text op) → ⊥
no_operator op h = let found = ap (written operator_text operators) h ∙ operator_found op in cc

two_parts : (b : Bool) (t p q : Token) (ts : List Token) (op : Operator) (behind : List Token) → Is ">" t → joins t ">" p ≡ true → joins p "=" q ≡ b → two_by b q ts ≡ (codes (operator_text op), behind)
    → SignParts t (p ∷ q ∷ ts) op behind
two_parts true t p q ts op behind g j is h = absurd (no_operator op (ap (λ (x : SignAt). x.0) h))
two_parts false t p q ts op behind g j is h =
    let rest : q ∷ ts ≡ behind = ap (λ (x : SignAt). x.1) h in
    shift g p (ap (λ ts. p ∷ ts) rest) j (subst (NoEqual p) rest is) (operator_same op ShiftRight (sym (ap (λ (x : SignAt). x.0) h)))

after_two_parts : (t p : Token) (ts : List Token) (op : Operator) (behind : List Token) → Is ">" t → joins t ">" p ≡ true → after_two p ts ≡ (codes (operator_text op), behind) → SignParts t (p ∷ ts) op behind
after_two_parts t p [] op behind g j h =
    let rest : [] ≡ behind = ap (λ (x : SignAt). x.1) h in
    shift g p (ap (λ ts. p ∷ ts) rest) j (subst (NoEqual p) rest tt) (operator_same op ShiftRight (sym (ap (λ (x : SignAt). x.0) h)))
after_two_parts t p (q ∷ ts) op behind g j h = two_parts (joins p "=" q) t p q ts op behind g j refl h

one_parts : (shifts equals : Bool) (t p : Token) (ts : List Token) (op : Operator) (behind : List Token) → Is ">" t → joins t ">" p ≡ shifts → joins t "=" p ≡ equals
    → one_by shifts equals p ts ≡ (codes (operator_text op), behind) → SignParts t (p ∷ ts) op behind
one_parts true equals t p ts op behind g j k h = after_two_parts t p ts op behind g j h
one_parts false true t p ts op behind g j k h =
    greater_equal g p (ap (λ ts. p ∷ ts) (ap (λ (x : SignAt). x.1) h)) j k (operator_same op GreaterEqual (sym (ap (λ (x : SignAt). x.0) h)))
one_parts false false t p ts op behind g j k h = greater g (operator_same op Greater (sym (ap (λ (x : SignAt). x.0) h))) (sym (ap (λ (x : SignAt). x.1) h)) (j, k)

after_one_parts : (t : Token) (ts : List Token) (op : Operator) (behind : List Token) → Is ">" t → after_one t ts ≡ (codes (operator_text op), behind) → SignParts t ts op behind
after_one_parts t [] op behind g h = greater g (operator_same op Greater (sym (ap (λ (x : SignAt). x.0) h))) (sym (ap (λ (x : SignAt). x.1) h)) tt
after_one_parts t (p ∷ ts) op behind g h = one_parts (joins t ">" p) (joins t "=" p) t p ts op behind g refl refl h

operator_no_end : (t : Token) (op : Operator) → sign_text (symbol t) ≡ codes (operator_text op) → symbol t ≡ End → ⊥
operator_no_end t op h e = let is = sign_is (symbol t) op h in cc

parts_by : (b : Bool) (t : Token) (ts : List Token) (op : Operator) (behind : List Token) → is_sign ">" (symbol t) ≡ b → sign_by b t ts ≡ (codes (operator_text op), behind) → SignParts t ts op behind
parts_by true t ts op behind g h = after_one_parts t ts op behind (is_sign-true ">" (symbol t) g) h
parts_by false t ts op behind g h =
    let text : sign_text (symbol t) ≡ codes (operator_text op) = ap (λ (x : SignAt). x.0) h in
    one_token g (operator_no_end t op text) (λ more. ap (λ b. sign_by b t more) g ∙ ap (λ (text : List ℕ). (text, more)) text) (sym (ap (λ (x : SignAt). x.1) h))

pub sign_parts : (t : Token) (ts : List Token) (op : Operator) (behind : List Token) → sign_at (t ∷ ts) ≡ (codes (operator_text op), behind) → SignParts t ts op behind
sign_parts t ts op behind h = parts_by (is_sign ">" (symbol t)) t ts op behind refl h

-- and back
pub greater_sign : (t : Token) (ts : List Token) → Is ">" t → Apart t ts → sign_at (t ∷ ts) ≡ (codes ">", ts)
greater_sign t [] g a = rw g refl
greater_sign t (p ∷ ts) g a = ap (λ b. sign_by b t (p ∷ ts)) (ap (is_sign ">") g) ∙ ap (λ b. one_by b (joins t "=" p) p ts) a.0 ∙ ap (λ b. one_by false b p ts) a.1

pub equal_sign : (t p : Token) (ts : List Token) → Is ">" t → joins t ">" p ≡ false → joins t "=" p ≡ true → sign_at (t ∷ p ∷ ts) ≡ (codes ">=", ts)
equal_sign t p ts g j k = ap (λ b. sign_by b t (p ∷ ts)) (ap (is_sign ">") g) ∙ ap (λ b. one_by b (joins t "=" p) p ts) j ∙ ap (λ b. one_by false b p ts) k

pub shift_sign : (t p : Token) (ts : List Token) → Is ">" t → joins t ">" p ≡ true → NoEqual p ts → sign_at (t ∷ p ∷ ts) ≡ (codes ">>", ts)
shift_sign t p [] g j a = ap (λ b. sign_by b t (p ∷ [])) (ap (is_sign ">") g) ∙ ap (λ b. one_by b (joins t "=" p) p []) j
shift_sign t p (q ∷ ts) g j a = ap (λ b. sign_by b t (p ∷ q ∷ ts)) (ap (is_sign ">") g) ∙ ap (λ b. one_by b (joins t "=" p) p (q ∷ ts)) j ∙ ap (λ b. two_by b q ts) a

pub assign_sign : (t p q : Token) (ts : List Token) → Is ">" t → joins t ">" p ≡ true → joins p "=" q ≡ true → sign_at (t ∷ p ∷ q ∷ ts) ≡ (codes ">>=", ts)
assign_sign t p q ts g j k = ap (λ b. sign_by b t (p ∷ q ∷ ts)) (ap (is_sign ">") g) ∙ ap (λ b. one_by b (joins t "=" p) p (q ∷ ts)) j ∙ ap (λ b. two_by b q ts) k

-- a token that joins is a sign
pub joins_no_end : (t p : Token) (sign : String) → joins t sign p ≡ true → symbol p ≡ End → ⊥
joins_no_end t p sign h e = false≢true (sym (ap (is_sign sign) e) ∙ (and_parts (touches t p) (is_sign sign (symbol p)) h).1)

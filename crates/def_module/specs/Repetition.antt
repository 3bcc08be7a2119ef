-- How the grammar repeats a form: options, repetitions, and lists with commas.
use Rattle.std.specs.Prelude.{List, [], ◌∷◌, Option, Some, None}
use Prim.Native.String.{String}
use Rattle.def_token.specs.Lexical.{Token}
use Rattle.def_tree.specs.Symbol.{Is, IsName}

-- a mark or a keyword
pub data IsWord (sign : String) : List Token → Token → List Token → Type 0 where
  of_word : {token : Token} {rest : List Token} → Is sign token
      → IsWord sign (token ∷ rest) token rest

-- Name
pub data IsNamed : List Token → Token → List Token → Type 0 where
  of_name : {token : Token} {rest : List Token} → IsName token → IsNamed (token ∷ rest) token rest

-- [ Form ]
pub data MayBe {A : Type 0} (IsForm : List Token → A → List Token → Type 0)
    : List Token → Option A → List Token → Type 0 where
  without : {rest : List Token} → MayBe IsForm rest None rest
  with_one : {tokens rest : List Token} {form : A} → IsForm tokens form rest
      → MayBe IsForm tokens (Some form) rest

-- [ Forms ], for a form that is a list of one or more; without it the list is empty
pub data MayHave {A : Type 0} (AreForms : List Token → List A → List Token → Type 0)
    : List Token → List A → List Token → Type 0 where
  without_any : {rest : List Token} → MayHave AreForms rest [] rest
  with_some : {tokens rest : List Token} {forms : List A}
      → AreForms tokens forms rest
      → MayHave AreForms tokens forms rest

-- { Form }
pub data AreMany {A : Type 0} (IsForm : List Token → A → List Token → Type 0)
    : List Token → List A → List Token → Type 0 where
  no_more : {rest : List Token} → AreMany IsForm rest [] rest
  one_more : {tokens behind rest : List Token} {form : A} {forms : List A}
      → IsForm tokens form behind → AreMany IsForm behind forms rest
      → AreMany IsForm tokens (form ∷ forms) rest

-- Form { "," Form }
pub data AreListed {A : Type 0} (IsForm : List Token → A → List Token → Type 0)
    : List Token → List A → List Token → Type 0 where
  last_one : {tokens rest : List Token} {form : A}
      → IsForm tokens form rest
      → AreListed IsForm tokens (form ∷ []) rest
  and_more : {comma : Token} {tokens behind rest : List Token} {form : A} {forms : List A}
      → IsForm tokens form (comma ∷ behind) → Is "," comma → AreListed IsForm behind forms rest
      → AreListed IsForm tokens (form ∷ forms) rest

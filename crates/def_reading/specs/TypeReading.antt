-- What stops a reader, and what begins a type.
use Rattle.std.specs.Prelude.{◌≡◌, ℕ, Bool, true, false, List, [], ◌∷◌, Result, Err, codes}
use Rattle.std.specs.Str.{bytes_eq}
use Rattle.def_token.specs.Lexical as lexical
use Rattle.def_token.specs.Lexical.{Token}
use Rattle.def_tree.specs.Symbol.{Symbol, Name, Number, Text, End, Sign, symbol}
use Rattle.def_tree.specs.TypeTree.{TypeWord, type_words, word_text}

-- the token at which a reader stops, and the code of what is told there
pub record Stop : Type 0 where
  pub token : Token
  pub code : ℕ

-- what is read, and the tokens behind it; or what stops the reader
abbrev pub Reading : Type 0 → Type 0
Reading A = Result (A × List Token) Stop

-- no tree continues a token
abbrev pub unexpected : {A : Type 0} → Token → Result A Stop
unexpected token = Err (record { token = token; code = 110 })

-- where there is no token; tokens end with their end, so that this is never told
abbrev pub nowhere : {A : Type 0} → Result A Stop
nowhere = unexpected (record
    { kind = lexical.End; text = []; start = 0; end = 0; place = record { line = 1; column = 1 } })

-- the last token is the end
abbrev pub Ended : List Token → Type 0
Ended [] = ⊥
Ended (token ∷ []) = symbol token ≡ End
Ended (token ∷ next ∷ tokens) = Ended (next ∷ tokens)

-- what begins a type: a word, a name, or nothing
pub data Lead : Type 0 where
  AWord : TypeWord → Lead
  AName : Lead
  NoType : Lead

-- a word where it is the one, and else what the others are
abbrev pub lead_by : Bool → TypeWord → Lead → Lead
lead_by true word other = AWord word
lead_by false word other = other

-- the first of some words that a text is
abbrev pub lead_among : List TypeWord → List ℕ → Lead
lead_among [] text = NoType
lead_among (word ∷ words) text =
    lead_by (bytes_eq text (codes (word_text word))) word (lead_among words text)

-- what a symbol begins
abbrev pub lead_of : Symbol → Lead
lead_of Name = AName
lead_of (Number wide) = NoType
lead_of Text = NoType
lead_of End = NoType
lead_of (Sign text) = lead_among type_words text

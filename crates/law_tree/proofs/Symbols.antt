-- Tests of symbols mean what they say.
use Rattle.std.proofs.Common.{◌≡◌, ℕ, Bool, true, false, List, [], ◌∷◌, refl, ap, codes}
use Rattle.std.specs.Prelude.{Option, Some, None}
use Rattle.std.specs.Str.{bytes_eq}
use Rattle.std.proofs.lemmas.Bool.{false≢true}
use Rattle.std.proofs.lemmas.Slice.Eq.{bytes_eq-Decides}
use Prim.Native.String.{String}
use Rattle.def_token.specs.Lexical as lexical
use Rattle.def_token.specs.Lexical.{Kind, Token}
use Rattle.def_tree.specs.Symbol.{Symbol, Name, Number, Text, End, Sign, symbol, symbol_by, is_sign, is_wide, IsNumeral}

-- the symbol is a name
abbrev pub is_name : Symbol → Bool
is_name Name = true
is_name (Number wide) = false
is_name Text = false
is_name End = false
is_name (Sign text) = false

pub is_sign-true : (sign : String) (s : Symbol) → is_sign sign s ≡ true → s ≡ Sign (codes sign)
is_sign-true sign Name h = absurd (false≢true h)
is_sign-true sign (Number wide) h = absurd (false≢true h)
is_sign-true sign Text h = absurd (false≢true h)
is_sign-true sign End h = absurd (false≢true h)
is_sign-true sign (Sign text) h = ap Sign ((bytes_eq-Decides text (codes sign)).0 h)

module _ {A : Type 0} (text_of : A → String) where
  abbrev among_by : Bool → A → Option A → Option A
  among_by true a others = Some a
  among_by false a others = others

  -- the first of these that is written so
  abbrev pub among : List A → List ℕ → Option A
  among [] text = None
  among (a ∷ others) text = among_by (bytes_eq text (codes (text_of a))) a (among others text)

  -- the one of the table that a symbol is, if it is one
  abbrev pub found_in : List A → Symbol → Option A
  found_in table Name = None
  found_in table (Number wide) = None
  found_in table Text = None
  found_in table End = None
  found_in table (Sign text) = among table text

is_numeral_by : (kind : Kind) (text : List ℕ) (wide : Bool) → symbol_by kind text ≡ Number wide → symbol_by kind text ≡ Number (is_wide text)
is_numeral_by lexical.Name text wide h = cc
is_numeral_by lexical.Keyword text wide h = cc
is_numeral_by lexical.Number text wide h = refl
is_numeral_by lexical.Text text wide h = cc
is_numeral_by lexical.Mark text wide h = cc
is_numeral_by lexical.End text wide h = cc

-- a token that is a number is one whether its type has 64 bits or not
pub is_numeral : (token : Token) (wide : Bool) → symbol token ≡ Number wide → IsNumeral token
is_numeral token wide h = is_numeral_by token.kind token.text wide h

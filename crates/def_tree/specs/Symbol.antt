-- What the grammar sees of tokens.
use Rattle.std.specs.Prelude.{◌≡◌, ℕ, ◌-◌, Bool, false, ◌||◌, ◌==◌, List, length, slice_index, codes}
use Rattle.std.specs.Str.{bytes_eq}
use Prim.Native.String.{String}
use Rattle.def_token.specs.Lexical as lexical
use Rattle.def_token.specs.Lexical.{Kind, Token}

-- a name, a number, by whether its type has 64 bits, a string, the end, or a sign: a mark or a
-- keyword
pub data Symbol : Type 0 where
  Name : Symbol
  Number : Bool → Symbol
  Text : Symbol
  End : Symbol
  Sign : List ℕ → Symbol

-- A number has a type of 64 bits: it ends in `ll`, `LL`, `ull` or `ULL`. No digit is one of these
-- letters.
abbrev pub is_wide : List ℕ → Bool
is_wide text = let last = slice_index text (length text - 1) in last == 108 || last == 76

-- what a token of a kind with a text is
abbrev pub symbol_by : Kind → List ℕ → Symbol
symbol_by lexical.Name text = Name
symbol_by lexical.Keyword text = Sign text
symbol_by lexical.Number text = Number (is_wide text)
symbol_by lexical.Text text = Text
symbol_by lexical.Mark text = Sign text
symbol_by lexical.End text = End

-- what a token is
abbrev pub symbol : Token → Symbol
symbol token = symbol_by token.kind token.text

-- the token is this mark or keyword
abbrev pub Is : String → Token → Type 0
Is sign token = symbol token ≡ Sign (codes sign)

-- the token is a name
abbrev pub IsName : Token → Type 0
IsName token = symbol token ≡ Name

-- the token is a number
abbrev pub IsNumeral : Token → Type 0
IsNumeral token = symbol token ≡ Number (is_wide token.text)

-- the token is a number whose type has 32 bits
abbrev pub IsNarrow : Token → Type 0
IsNarrow token = symbol token ≡ Number false

-- the symbol is this sign
abbrev pub is_sign : String → Symbol → Bool
is_sign sign Name = false
is_sign sign (Number wide) = false
is_sign sign Text = false
is_sign sign End = false
is_sign sign (Sign text) = bytes_eq text (codes sign)

-- nothing stands between two tokens
abbrev pub touches : Token → Token → Bool
touches before behind = before.end == behind.start

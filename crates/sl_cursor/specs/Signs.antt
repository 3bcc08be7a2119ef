-- Tests of tokens by their kinds and texts.
use Rattle.std.specs.Prelude.{ℕ, Bool, true, false, not, List, [], ◌∷◌}
use Rattle.std.specs.Str.{bytes_eq}
use Rattle.def_token.specs.Lexical.{Token}
use Rattle.def_tree.specs.Symbol.{Symbol, Name, Number, Text, End, Sign, symbol}
use Rattle.def_reading.specs.TypeReading as reading
use Rattle.sl_cursor.specs.declared.signs.Lead.{Lead}
use Rattle.sl_cursor.specs.declared.signs.Lead.TheVariants as lead
use Rattle.sl_tree.specs.View.{word_of}

-- the symbol is a sign of this text
abbrev pub is_text : List ℕ → Symbol → Bool
is_text sign Name = false
is_text sign (Number wide) = false
is_text sign Text = false
is_text sign End = false
is_text sign (Sign text) = bytes_eq text sign

-- the symbol is a number
abbrev pub numbers : Symbol → Bool
numbers Name = false
numbers (Number wide) = true
numbers Text = false
numbers End = false
numbers (Sign text) = false

-- the symbol is a number of a type of 32 bits
abbrev pub narrows : Symbol → Bool
narrows Name = false
narrows (Number wide) = not wide
narrows Text = false
narrows End = false
narrows (Sign text) = false

-- the symbol is a string
abbrev pub texts : Symbol → Bool
texts Name = false
texts (Number wide) = false
texts Text = true
texts End = false
texts (Sign text) = false

-- the symbol is the end
abbrev pub ends : Symbol → Bool
ends Name = false
ends (Number wide) = false
ends Text = false
ends End = true
ends (Sign text) = false

-- tokens begin with a sign of this text
abbrev pub begins_text : List ℕ → List Token → Bool
begins_text sign [] = false
begins_text sign (token ∷ tokens) = is_text sign (symbol token)

-- what begins a type, as the functions on lists have it
abbrev pub lead_in : Lead → reading.Lead
lead_in (lead.Word word) = reading.AWord (word_of word)
lead_in lead.Name = reading.AName
lead_in lead.Neither = reading.NoType

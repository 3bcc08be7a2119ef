-- The marks of a text that open and close brackets and blocks.
use Rattle.std.specs.Prelude.{ℕ, ◌-◌, Bool, false, ◌||◌, List, [], ◌∷◌}
use Rattle.std.specs.List.{count_by}
use Prim.Native.String.{String}
use Rattle.def_token.specs.Lexical.{Token}
use Rattle.def_tree.specs.Symbol.{symbol, is_sign}

-- the token opens a bracket
abbrev pub opens_bracket : Token → Bool
opens_bracket token = is_sign "(" (symbol token) || is_sign "[" (symbol token)

-- the token closes a bracket
abbrev pub closes_bracket : Token → Bool
closes_bracket token = is_sign ")" (symbol token) || is_sign "]" (symbol token)

-- the token opens a brace
abbrev pub opens_brace : Token → Bool
opens_brace token = is_sign "{" (symbol token)

-- the token closes a brace
abbrev pub closes_brace : Token → Bool
closes_brace token = is_sign "}" (symbol token)

-- how many brackets these tokens open and do not close
abbrev pub open_brackets : List Token → ℕ
open_brackets tokens = count_by opens_bracket tokens - count_by closes_bracket tokens

-- how many braces these tokens open and do not close
abbrev pub open_braces : List Token → ℕ
open_braces tokens = count_by opens_brace tokens - count_by closes_brace tokens

-- the last of the tokens is a sign
abbrev pub ends_with : String → List Token → Bool
ends_with sign [] = false
ends_with sign (token ∷ []) = is_sign sign (symbol token)
ends_with sign (token ∷ next ∷ tokens) = ends_with sign (next ∷ tokens)

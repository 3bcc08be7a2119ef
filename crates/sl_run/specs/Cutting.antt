-- How the reader cuts a text into tokens.
use Rattle.std.specs.Prelude.{◌≡◌, ◌<◌, ℕ, zero, suc, Option, Some, None, Bool, false, not, ◌&&◌, ◌||◌, ◌==◌, nat_lt, nat_eq, List, [], ◌∷◌, length, take, drop, position, if◌then◌else◌, codes}
use Rattle.std.specs.List.{starts_with, list_all}
use Rattle.std.specs.Str.{bytes_eq}
use Rattle.def_slang.specs.Name.{is_word_byte}
use Rattle.def_slang.specs.Token.{is_white}

-- the string that names the one stage, with its quotation marks
abbrev pub stage : List ℕ
stage = codes "\"compute\""

-- what stands behind the first place, if there is one
abbrev pub behind : List ℕ → Option ℕ → List ℕ
behind text None = []
behind text (Some k) = drop k text

-- a text behind the white space that it begins with
abbrev pub behind_white : List ℕ → List ℕ
behind_white text = behind text (position (λ b. not (is_white b)) text)

-- how many bytes the token has, where the first byte of no word stands at a place or nowhere
abbrev pub len_by : List ℕ → Option ℕ → ℕ
len_by text None = length text
len_by text (Some zero) = if starts_with nat_eq text stage then length stage else 1
len_by text (Some (suc k)) = suc k

-- how many bytes the token has that a text begins with: a word, the stage, or one byte
abbrev pub token_len : List ℕ → ℕ
token_len text = len_by text (position (λ b. not (is_word_byte b)) text)

-- Cut one after another, the tokens that this text begins with leave this rest.
abbrev pub CutsTo : List ℕ → List (List ℕ) → List ℕ → Type 0
CutsTo text [] rest = behind_white text ≡ rest
CutsTo text (token ∷ tokens) rest =
    (0 < length (behind_white text))
    × (token ≡ take (token_len (behind_white text)) (behind_white text))
    × CutsTo (drop (token_len (behind_white text)) (behind_white text)) tokens rest

-- these are all tokens of the text
abbrev pub Cuts : List ℕ → List (List ℕ) → Type 0
Cuts text tokens = CutsTo text tokens []

-- a letter, a digit or `_`, and more of them
abbrev pub is_word : List ℕ → Bool
is_word token = nat_lt 0 (length token) && list_all is_word_byte token

-- a byte that begins no word and no string, and is no white space
abbrev pub is_mark : List ℕ → Bool
is_mark [] = false
is_mark (b ∷ []) = not (is_word_byte b) && (not (is_white b) && not (b == 34))
is_mark (b ∷ c ∷ rest) = false

-- a word, the stage or a mark
abbrev pub is_token : List ℕ → Bool
is_token token = is_word token || (bytes_eq token stage || is_mark token)

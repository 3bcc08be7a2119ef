-- How a text is cut into tokens.
use Rattle.std.specs.Prelude.{◌≡◌, ℕ, Bool, true, not, ◌||◌, ◌==◌, List, [], ◌∷◌, ◌++◌, drop, nat_eq, if◌then◌else◌, IsTrue}
use Rattle.std.specs.List.{list_all, starts_with}
use Rattle.def_slang.specs.Name.{is_word_byte}

-- space, tab, line feed or carriage return
abbrev pub is_white : ℕ → Bool
is_white b = (b == 32 || b == 9) || (b == 10 || b == 13)

-- A word goes on as far as it can, so no letter, digit or `_` stands behind one. Other tokens end
-- where they end.
abbrev pub ends_before : List ℕ → List ℕ → Bool
ends_before token [] = true
ends_before token (b ∷ rest) = if list_all is_word_byte token then not (is_word_byte b) else true

-- the text is white space, then the token, then the rest
pub record Begins (text token rest : List ℕ) : Type 0 where
  pub space : List ℕ
  pub white : IsTrue (list_all is_white space)
  pub parts : text ≡ space ++ (token ++ rest)
  pub ends : IsTrue (ends_before token rest)

-- the text is these tokens, with white space before each, then the rest
abbrev pub Spells : List ℕ → List (List ℕ) → List ℕ → Type 0
Spells text [] rest = text ≡ rest
Spells text (token ∷ tokens) rest =
    (after : List ℕ) × Begins text token after × Spells after tokens rest

-- the text is these tokens, with white space before, between and behind them
pub record IsText (text : List ℕ) (tokens : List (List ℕ)) : Type 0 where
  pub rest : List ℕ
  pub spelled : Spells text tokens rest
  pub white : IsTrue (list_all is_white rest)

-- the UTF-8 byte order mark (Unicode, 23.8, "Specials")
abbrev pub byte_order_mark : List ℕ
byte_order_mark = 0xEF ∷ 0xBB ∷ 0xBF ∷ []

-- a text behind its byte order mark, if it begins with one
abbrev pub without_mark : List ℕ → List ℕ
without_mark text = if starts_with nat_eq text byte_order_mark then drop 3 text else text

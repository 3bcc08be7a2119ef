-- Names and the words that they are made of.
use Rattle.std.specs.Prelude.{ℕ, Bool, false, ◌&&◌, ◌||◌, ◌==◌, nat_le, List, [], ◌∷◌, length}
use Rattle.std.specs.Char.{is_ascii_alphabetic, is_ascii_alphanumeric}
use Rattle.std.specs.List.{list_all}

-- a letter or `_`
abbrev pub begins_name : ℕ → Bool
begins_name b = is_ascii_alphabetic b || b == 95

-- a letter, a digit or `_`
abbrev pub is_word_byte : ℕ → Bool
is_word_byte b = is_ascii_alphanumeric b || b == 95

-- a letter or `_`, then letters, digits and `_`, of at most 255 bytes in all
abbrev pub is_name : List ℕ → Bool
is_name [] = false
is_name (b ∷ bytes) =
    (begins_name b && list_all is_word_byte bytes) && nat_le (length (b ∷ bytes)) 255

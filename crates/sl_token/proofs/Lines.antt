-- Places behind bytes that have no line end.
use Rattle.std.proofs.Common.{◌≡◌, ℕ, ◌+◌, Bool, true, false, List, [], ◌∷◌, length, refl, sym, ap, ◌∙◌, arith}
use Rattle.std.specs.Prelude.{if◌then◌else◌}
use Rattle.std.specs.List.{list_all}
use Rattle.std.proofs.lemmas.Bool.{and_from, and_parts, not-true}
use Rattle.std.proofs.lemmas.Bool.Decides.{nat_tests}
use Rattle.def_slang.specs.Name.{is_word_byte}
use Rattle.def_token.specs.Lexeme.{is_in_line, is_line_feed}
use Rattle.def_token.specs.Lexical as definition
use Rattle.sl_token.specs.Moving.{place_after}

abbrev place_with : ℕ → ℕ → definition.Place
place_with line column = record { line = line; column = column }

-- bytes of one line move the column alone
pub along_line : (line column : ℕ) (bytes : List ℕ) → list_all is_in_line bytes ≡ true
    → place_with line (column + length bytes) ≡ place_after (place_with line column) bytes
along_line line column [] all = ap (place_with line) (omega arith)
along_line line column (b ∷ bytes) all =
    let both = and_parts (is_in_line b) (list_all is_in_line bytes) all in
    let same : is_line_feed b ≡ false = not-true (is_line_feed b) both.0 in
    ap (place_with line) (omega arith)
    ∙ along_line line (column + 1) bytes both.1
    ∙ ap (λ (t : Bool). place_after (if t then place_with (line + 1) 1 else place_with line (column + 1)) bytes) (sym same)

word_byte_in_line : (b : ℕ) → is_word_byte b ≡ true → is_in_line b ≡ true
word_byte_in_line b h = grind (arith, nat_tests)

-- a word has no line end
pub word_in_line : (bytes : List ℕ) → list_all is_word_byte bytes ≡ true → list_all is_in_line bytes ≡ true
word_in_line [] h = refl
word_in_line (b ∷ bytes) h =
    let both = and_parts (is_word_byte b) (list_all is_word_byte bytes) h in
    and_from (is_in_line b) (list_all is_in_line bytes) (word_byte_in_line b both.0) (word_in_line bytes both.1)

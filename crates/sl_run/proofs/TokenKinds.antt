-- The tokens of a module are words, marks and the stage's string.
use Rattle.std.proofs.Common.{◌≡◌, ℕ, suc, ◌<◌, ◌^◌, true, not, ◌&&◌, List, [], ◌∷◌, length, refl, arith}
use Rattle.std.specs.Prelude.{nat_le}
use Rattle.std.specs.Int.{IsInRange}
use Rattle.std.specs.List.{list_all}
use Rattle.std.specs.Fmt.{decimal}
use Rattle.std.specs.Str.Parse.{AllDigits}
use Rattle.std.proofs.lemmas.Bool.{false≢true, lt-ltb}
use Rattle.std.proofs.lemmas.Bool.Decides.{nat_tests}
use Rattle.std.proofs.lemmas.Fmt.{digits_decimal, decimal_nonempty}
use Rattle.std.proofs.lemmas.Str.Parse.{tells_digits}
use Rattle.def_slang.specs.Name.{is_name, is_word_byte, begins_name}
use Rattle.def_slang.specs.Keyword.{is_keyword}
use Rattle.def_slang.specs.BufferWrite.{BufferWrite, tokens_of, is_free_name, IsAllowed}
use Rattle.sl_run.specs.Cutting.{is_token}
use Rattle.sl_run.proofs.Numbers.{own}
use Rattle.sl_run.proofs.Runs.{both_by}

digit_byte : (c : ℕ) → IsInRange 48 57 c → is_word_byte c ≡ true
digit_byte c h = grind (arith, nat_tests)

digit_bytes : (ds : List ℕ) → AllDigits 10 ds → list_all is_word_byte ds ≡ true
digit_bytes [] h = refl
digit_bytes (c ∷ cs) h =
    let parts = tells_digits.parts c cs h in
    rw (digit_byte c parts.0, digit_bytes cs parts.1)

some_word : (token : List ℕ) → 0 < length token → list_all is_word_byte token ≡ true → is_token token ≡ true
some_word token some all = rw (lt-ltb 0 (length token) some, all)

number_token : (n : ℕ) → n < 2 ^ 32 → is_token (decimal n) ≡ true
number_token n small = some_word (decimal n) (decimal_nonempty n (omega arith)) (digit_bytes (decimal n) (digits_decimal own n (omega arith)))

begins_word : (b : ℕ) → begins_name b ≡ true → is_word_byte b ≡ true
begins_word b h = grind (arith, nat_tests)

name_token : (name : List ℕ) → is_free_name name ≡ true → is_token name ≡ true
name_token [] h = absurd (false≢true h)
name_token (b ∷ bytes) h =
    let name = (both_by (is_name (b ∷ bytes)) (not (is_keyword (b ∷ bytes))) h).0 in
    let parts = both_by (begins_name b && list_all is_word_byte bytes) (nat_le (suc (length bytes)) 255) name in
    let both = both_by (begins_name b) (list_all is_word_byte bytes) parts.0 in
    some_word (b ∷ bytes) (omega arith) (rw (begins_word b both.0, both.1))

pub tokens_kinds : (w : BufferWrite) → IsAllowed w → list_all is_token (tokens_of w) ≡ true
tokens_kinds w allowed =
    simp (
      name_token w.buffer allowed.buffer,
      name_token w.entry allowed.entry,
      name_token w.id allowed.id,
      number_token w.threads.0 (omega (arith, allowed.threads.x)),
      number_token w.threads.1 (omega (arith, allowed.threads.y)),
      number_token w.threads.2 (omega (arith, allowed.threads.z)),
      number_token w.value (omega (arith, allowed.value)),
    )

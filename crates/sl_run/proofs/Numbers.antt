-- Decimal numbers have one spelling.
use Rattle.std.proofs.Common.{◌≡◌, ℕ, zero, suc, ◌<◌, ◌^◌, List, length, get_or, eqb, ◌≤◌, false, refl, sym, ap, ◌∙◌, arith}
use Rattle.std.specs.Prelude.{Ok, Err}
use Rattle.std.specs.declared.num.ParseIntError.{ParseIntError}
use Rattle.std.specs.Fmt.{decimal}
use Rattle.std.specs.Str.{IsUtf8}
use Rattle.std.specs.Str.Parse.{AllDigits, digits_value, ParsesUnsigned, without_leading_plus}
use Rattle.std.proofs.lemmas.Str.{IsUtf8-from_ascii}
use Rattle.std.proofs.lemmas.Str.Parse.{IsNumeralModel}
use Rattle.std.proofs.lemmas.Fmt.{decimal-digits_value, decimal_digit, IsAscii-decimal, first_decimal, parse-decimal}
use Rattle.std.proofs.lemmas.Bool.Decides.{nat_tests}
use Rattle.sl_run.specs.Number.{has_other_spelling}

pub own : IsNumeralModel (AllDigits 10) (digits_value 10)
own = record { to = λ ds h. h; from = λ ds h. h; same = λ ds h. refl }

plain_first : (bs : List ℕ) → 48 < get_or bs 0 0 → has_other_spelling bs ≡ false
plain_first bs first = grind (arith, nat_tests)

pub utf8_decimal : (n : ℕ) → n < 2 ^ 32 → IsUtf8 (decimal n)
utf8_decimal n small = IsUtf8-from_ascii (decimal n) (IsAscii-decimal n (omega arith))

-- the digits of a number begin with no plus, and with a zero only where they are that zero
pub plain_decimal : (n : ℕ) → n < 2 ^ 32 → has_other_spelling (decimal n) ≡ false
plain_decimal zero small = rw (decimal_digit 0 (omega arith))
plain_decimal (suc n) small = plain_first (decimal (suc n)) (first_decimal (suc n) (omega arith) (omega arith))

-- a plus or a zero that stands first, or none
abbrev Unsigned : List ℕ → Type 0
Unsigned bs = (eqb (get_or bs 0 0) 43 ≡ false) × (get_or bs 0 0 ≡ 48 → length bs ≤ 1)

unsigned : (bs : List ℕ) → has_other_spelling bs ≡ false → Unsigned bs
unsigned bs plain = (grind (arith, nat_tests), λ zero_first. grind (arith, nat_tests))

without_plus : (bs : List ℕ) → eqb (get_or bs 0 0) 43 ≡ false → without_leading_plus bs ≡ bs
without_plus bs no_plus = rw no_plus

-- what was parsed, and has no other spelling, is spelled so
pub parsed_spelling : (bs : List ℕ) (n : ℕ) → has_other_spelling bs ≡ false → ParsesUnsigned {E = ParseIntError} 32 10 bs (Ok n) → bs ≡ decimal n
parsed_spelling bs n plain h =
    let u = unsigned bs plain in
    let numeral = rw (without_plus bs u.0) at h in
    let some : 0 < length bs = numeral.0.0.0 in
    let small : digits_value 10 bs < 2 ^ 32 = numeral.0.1 in
    sym (ap decimal numeral.1 ∙ decimal-digits_value own bs numeral.0.0.1 some (λ zero_first. omega (arith, u.1 zero_first)) (omega arith))

-- what spells a number is parsed
pub parsed_decimal : (bs : List ℕ) (e : ParseIntError) (n : ℕ) → n < 2 ^ 32 → bs ≡ decimal n → ParsesUnsigned 32 10 bs (Err e) → ⊥
parsed_decimal bs e n small same h =
    let ok : Err e ≡ Ok n = parse-decimal 32 n bs (Err e) small (omega arith) same h in
    cc

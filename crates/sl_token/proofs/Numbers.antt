-- Reading digits and types.
use Rattle.std.proofs.Common.{◌≡◌, ℕ, zero, suc, ◌<◌, ◌≤◌, ◌^◌, Bool, true, false, cond, List, [], ◌∷◌, length, refl, sym, ap, subst, ◌∙◌, arith, eqb, ⊎_elim}
use Rattle.std.specs.Prelude.{IfSome, IfNone, Option, Some, None, find, nat_le}
use Rattle.law_token.proofs.Numbers.{told}
use Rattle.std.specs.Char.{digit_value}
use Rattle.std.specs.List.{list_all}
use Rattle.std.specs.Option.{option_map}
use Rattle.std.specs.Str.{IsAscii, IsUtf8}
use Rattle.std.specs.Str.Parse.{AllDigits, IsNumeral, digits_value, without_leading_plus}
use Rattle.std.proofs.lemmas.Bool.{and_parts, cases_lt}
use Rattle.std.proofs.lemmas.Bool.Decides.{nat_tests}
use Rattle.std.proofs.lemmas.Str.{IsUtf8-from_ascii}
use Rattle.def_token.specs.Number as definition
use Rattle.def_token.specs.Number.{Base, Decimal, Hexadecimal, is_digit_of, radix_of}
use Rattle.sl_token.specs.Reading.{range_in, ranges_in}
use Rattle.sl_token.specs.View.{number_in}
use Rattle.sl_token.specs.declared.number.Number.{Number}
use Rattle.sl_token.specs.declared.number.NumberType.{NumberType}

abbrev Row : Type 0
Row = NumberType × ℕ

abbrev holds : ℕ → Row → Bool
holds value row = nat_le value row.1

found_by : (value : ℕ) (row : Row) (rows : List Row) (b : Bool)
    → find (λ (range : definition.Range). nat_le value range.1) (ranges_in rows) ≡ option_map range_in (find (holds value) rows)
    → cond b (Some (range_in row)) (find (λ (range : definition.Range). nat_le value range.1) (ranges_in rows)) ≡ option_map range_in (cond b (Some row) (find (holds value) rows))
found_by value row rows true more = refl
found_by value row rows false more = more

-- the first range of the definitions is that of the first range here
found : (value : ℕ) (rows : List Row) → find (λ (range : definition.Range). nat_le value range.1) (ranges_in rows) ≡ option_map range_in (find (holds value) rows)
found value [] = refl
found value (row ∷ rows) = found_by value row rows (nat_le value row.1) (found value rows)

abbrev number_at : ℕ → Row → Number
number_at value row = record { number_type = row.0; value = value }

with_by : (value : ℕ) (o : Option Row) → option_map number_in (option_map (number_at value) o)
    ≡ option_map (λ type. record { number_type = type; value = value }) (option_map (λ (range : definition.Range). range.0) (option_map range_in o))
with_by value None = refl
with_by value (Some row) = refl

pub number_by_range : (value : ℕ) (rows : List Row) (o : Option Row) → o ≡ find (holds value) rows
    → option_map number_in (option_map (number_at value) o) ≡ definition.number_with (ranges_in rows) value
number_by_range value rows o is =
    with_by value o
    ∙ ap (λ r. option_map (λ type. record { number_type = type; value = value }) (option_map (λ (range : definition.Range). range.0) r))
    (ap (option_map range_in) is ∙ sym (found value rows))

digit_fits : (base : Base) (b : ℕ) → is_digit_of base b ≡ true → digit_value b < radix_of base
digit_fits Decimal b h = grind (arith, nat_tests)
digit_fits Hexadecimal b h = grind (arith, nat_tests)

pub all_digits : (base : Base) (digits : List ℕ) → list_all (is_digit_of base) digits ≡ true → AllDigits (radix_of base) digits
all_digits base [] h = tt
all_digits base (b ∷ digits) h =
    let both = and_parts (is_digit_of base b) (list_all (is_digit_of base) digits) h in
    (digit_fits base b both.0, all_digits base digits both.1)

no_plus_at : (base : Base) (b : ℕ) → is_digit_of base b ≡ true → eqb b 43 ≡ false
no_plus_at Decimal b h = grind (arith, nat_tests)
no_plus_at Hexadecimal b h = grind (arith, nat_tests)

pub no_plus : (base : Base) (digits : List ℕ) → list_all (is_digit_of base) digits ≡ true → without_leading_plus digits ≡ digits
no_plus base [] h = refl
no_plus base (b ∷ digits) h =
    let first = no_plus_at base b (and_parts (is_digit_of base b) (list_all (is_digit_of base) digits) h).0 in
    rw first

ascii_at : (base : Base) (b : ℕ) → is_digit_of base b ≡ true → b < 128
ascii_at Decimal b h = grind (arith, nat_tests)
ascii_at Hexadecimal b h = grind (arith, nat_tests)

ascii : (base : Base) (digits : List ℕ) → list_all (is_digit_of base) digits ≡ true → IsAscii digits
ascii base [] h i = omega arith
ascii base (b ∷ digits) h zero = ascii_at base b (and_parts (is_digit_of base b) (list_all (is_digit_of base) digits) h).0
ascii base (b ∷ digits) h (suc i) = ascii base digits (and_parts (is_digit_of base b) (list_all (is_digit_of base) digits) h).1 i

pub utf8_digits : (base : Base) (digits : List ℕ) → list_all (is_digit_of base) digits ≡ true → IsUtf8 digits
utf8_digits base digits h = IsUtf8-from_ascii digits (ascii base digits h)

-- what is a numeral and was not parsed is too large
pub too_large : (base : Base) (digits : List ℕ) → 0 < length digits → list_all (is_digit_of base) digits ≡ true → (radix : ℕ) → radix ≡ radix_of base
    → (IsNumeral radix (without_leading_plus digits) × (digits_value radix (without_leading_plus digits) < 2 ^ 64) → ⊥)
    → 2 ^ 64 ≤ digits_value (radix_of base) digits
too_large base digits some all radix is not_parsed =
    let plain = no_plus base digits all in
    let not_small : (IsNumeral (radix_of base) digits × (digits_value (radix_of base) digits < 2 ^ 64) → ⊥) =
    subst (λ ds. (IsNumeral (radix_of base) ds × (digits_value (radix_of base) ds < 2 ^ 64) → ⊥)) plain
    (subst (λ r. (IsNumeral r (without_leading_plus digits) × (digits_value r (without_leading_plus digits) < 2 ^ 64) → ⊥)) is not_parsed) in
    ⊎_elim (λ small. absurd (not_small ((some, all_digits base digits all), small))) (λ large. large) (cases_lt (digits_value (radix_of base) digits) (2 ^ 64))

-- the number that is told is the one that a word spells
pub some_spelled : (word : List ℕ) (o : Option Number) → option_map number_in o ≡ definition.number_of word
    → IfSome o (λ number. definition.IsNumber word (number_in number))
some_spelled word None h = tt
some_spelled word (Some number) h = (told word (number_in number)).0 (sym h)

no_number : (o : Option definition.Number) (number : definition.Number) → o ≡ None → o ≡ Some number → ⊥
no_number o number h k = cc

pub none_spelled : (word : List ℕ) (o : Option Number) → option_map number_in o ≡ definition.number_of word
    → IfNone o ((number : definition.Number) → definition.IsNumber word number → ⊥)
none_spelled word None h = λ number is. no_number (definition.number_of word) number (sym h) ((told word number).1 is)
none_spelled word (Some number) h = tt

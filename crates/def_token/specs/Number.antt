-- The numbers: their digits, their suffixes, and the types that they have.
use Rattle.std.specs.Prelude.{◌≡◌, ◌↔◌, ℕ, Bool, true, not, ◌&&◌, ◌||◌, ◌==◌, nat_lt, nat_le, nat_eq, List, [], ◌∷◌, ◌++◌, length, take, drop, find, Option, Some, None, slice_index, if◌then◌else◌, codes, IsTrue}
use Rattle.std.specs.Char.{is_ascii_digit, is_ascii_hexdigit}
use Rattle.std.specs.List.{list_all, starts_with, prefix_len, Contains}
use Rattle.std.specs.Option.{option_map, option_and_then}
use Rattle.std.specs.Str.{bytes_eq}
use Rattle.std.specs.Str.Parse.{digits_value}

-- the type of a number
pub data NumberType : Type 0 where
  Int : NumberType
  Uint : NumberType
  Int64 : NumberType
  Uint64 : NumberType

-- what a number is
pub record Number : Type 0 where
  pub number_type : NumberType
  pub value : ℕ

-- how the digits of a number are written
pub data Base : Type 0 where
  Decimal : Base
  Hexadecimal : Base

-- a type, and the greatest value that a number of it can have
abbrev pub Range : Type 0
Range = NumberType × ℕ

-- a suffix, and which types a decimal and a hexadecimal number with it can have
pub record Suffix : Type 0 where
  pub text : List ℕ
  pub decimal : List Range
  pub hexadecimal : List Range

-- an int, up to 0x7FFFFFFF
abbrev pub int : Range
int = (Int, 2147483647)

-- a uint, up to 0xFFFFFFFF
abbrev pub uint : Range
uint = (Uint, 4294967295)

-- an int64_t, up to 0x7FFFFFFFFFFFFFFF
abbrev pub int64 : Range
int64 = (Int64, 9223372036854775807)

-- a uint64_t, up to 0xFFFFFFFFFFFFFFFF
abbrev pub uint64 : Range
uint64 = (Uint64, 18446744073709551615)

-- a suffix with which a number has this type, however it is written
abbrev pub of_type : List ℕ → Range → Suffix
of_type text range = record { text = text; decimal = range ∷ []; hexadecimal = range ∷ [] }

-- the table of suffixes, of which the first is none
abbrev pub suffixes : List Suffix
suffixes =
    record { text = []; decimal = int ∷ []; hexadecimal = int ∷ uint ∷ [] }
    ∷ of_type (codes "u") uint ∷ of_type (codes "U") uint
    ∷ of_type (codes "ll") int64 ∷ of_type (codes "LL") int64
    ∷ of_type (codes "ull") uint64 ∷ of_type (codes "ULL") uint64
    ∷ []

-- what stands before the digits
abbrev pub prefix_of : Base → List ℕ
prefix_of Decimal = []
prefix_of Hexadecimal = codes "0x"

-- how many digits there are
abbrev pub radix_of : Base → ℕ
radix_of Decimal = 10
radix_of Hexadecimal = 16

-- a byte is a digit; letters may be of either case
abbrev pub is_digit_of : Base → ℕ → Bool
is_digit_of Decimal b = is_ascii_digit b
is_digit_of Hexadecimal b = is_ascii_hexdigit b

-- a zero begins decimal digits only where it is all of them
abbrev pub may_lead : Base → List ℕ → Bool
may_lead Decimal digits = nat_le (length digits) 1 || not (slice_index digits 0 == 48)
may_lead Hexadecimal digits = true

-- one digit or more
abbrev pub are_digits : Base → List ℕ → Bool
are_digits base digits =
    nat_lt 0 (length digits) && (list_all (is_digit_of base) digits && may_lead base digits)

-- the types of a number with a suffix, the first choice first
abbrev pub ranges_of : Base → Suffix → List Range
ranges_of Decimal suffix = suffix.decimal
ranges_of Hexadecimal suffix = suffix.hexadecimal

-- the first of the types that has the value
abbrev pub type_for : List Range → ℕ → Option NumberType
type_for ranges value =
    option_map (λ (range : Range). range.0) (find (λ (range : Range). nat_le value range.1) ranges)

-- The word is a prefix, digits and a suffix of the table.
-- The number's type is the first one of the suffix that has its value.
pub record IsNumber (word : List ℕ) (number : Number) : Type 0 where
  pub base : Base
  pub digits : List ℕ
  pub suffix : Suffix
  pub parts : word ≡ prefix_of base ++ (digits ++ suffix.text)
  pub digits_are : IsTrue (are_digits base digits)
  pub listed : Contains suffixes suffix
  pub value : number.value ≡ digits_value (radix_of base) digits
  pub type : type_for (ranges_of base suffix) number.value ≡ Some number.number_type

-- the base that a word is written in, if it is a number
abbrev pub base_of : List ℕ → Base
base_of word = if starts_with nat_eq word (codes "0x") then Hexadecimal else Decimal

-- the suffix with this text
abbrev pub suffix_of : List ℕ → Option Suffix
suffix_of text = find (λ (suffix : Suffix). bytes_eq text suffix.text) suffixes

-- the number of a value, if a type has it
abbrev pub number_with : List Range → ℕ → Option Number
number_with ranges value =
    option_map (λ found. record { number_type = found; value = value }) (type_for ranges value)

-- the number of digits with a suffix
abbrev pub number_at : Base → List ℕ → Suffix → Option Number
number_at base digits suffix =
    number_with (ranges_of base suffix) (digits_value (radix_of base) digits)

-- the number of digits with the suffix of this text
abbrev pub number_by : Base → List ℕ → List ℕ → Option Number
number_by base digits text =
    if are_digits base digits then option_and_then (number_at base digits) (suffix_of text)
    else None

-- the number of a text behind its prefix
abbrev pub number_behind : Base → List ℕ → Option Number
number_behind base text =
    let count = prefix_len (is_digit_of base) text in
    number_by base (take count text) (drop count text)

-- the number that a word is, if it is one: `IsNumber` as a function
abbrev pub number_of : List ℕ → Option Number
number_of word = let base = base_of word in number_behind base (drop (length (prefix_of base)) word)

-- `number_of` tells what `IsNumber` says
abbrev pub NumbersAreTold : Type 0
NumbersAreTold =
    (word : List ℕ) (number : Number) → (number_of word ≡ Some number) ↔ IsNumber word number

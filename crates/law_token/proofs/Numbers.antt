-- The number of a word is the one that it spells.
use Rattle.std.proofs.Common.{◌≡◌, ◌↔◌, ℕ, zero, suc, ◌<◌, Bool, true, false, not, cond, ◌&&◌, List, [], ◌∷◌, ◌++◌, length, take, drop, get_or, refl, sym, ap, subst, ◌∙◌, arith, one-add}
use Rattle.std.specs.Prelude.{Option, Some, None, find, if◌then◌else◌, nat_eq, codes}
use Rattle.std.specs.Char.{is_ascii_digit, is_ascii_hexdigit}
use Rattle.std.specs.List.{AllByRecursion, Contains, list_all, prefix_len, starts_with}
use Rattle.std.specs.Option.{option_map, option_and_then}
use Rattle.std.specs.Str.{bytes_eq}
use Rattle.std.specs.Str.Parse.{digits_value}
use Rattle.std.proofs.lemmas.Bool.{and_parts, not-true}
use Rattle.std.proofs.lemmas.Bool.Decides.{nat_tests}
use Rattle.std.proofs.lemmas.List.{take-append-drop}
use Rattle.std.proofs.lemmas.Slice.Eq.{bytes_eq-Decides}
use Rattle.std.proofs.Math.Seq.{take-append_seam, drop-append_seam}
use Rattle.def_token.specs.Number.{Base, Decimal, Hexadecimal, Int, Number, NumberType, Suffix, IsNumber, are_digits, base_of, is_digit_of, may_lead, number_behind, number_by, number_of, number_with, prefix_of, radix_of, ranges_of, suffix_of, suffixes, type_for}

-- what stands in a table has what each of its entries has
entry_at : {X : Type 0} (P : X → Type 0) (xs : List X) (x : X) (k : ℕ) → AllByRecursion P xs → k < length xs → get_or xs k x ≡ x → P x
entry_at P [] x k all short same = absurd (omega arith)
entry_at P (y ∷ xs) x zero all short same = subst P same all.0
entry_at P (y ∷ xs) x (suc k) all short same = entry_at P xs x k all.1 (omega arith) same

-- what a search finds is in the list and passes
pub record IsFound {X : Type 0} (test : X → Bool) (xs : List X) (x : X) : Type 0 where
  pub contained : Contains xs x
  pub passes : test x ≡ true

later : {X : Type 0} (test : X → Bool) (y : X) (xs : List X) (x : X) → IsFound test xs x → IsFound test (y ∷ xs) x
later test y xs x h = record { contained = (suc h.contained.0, omega (arith, h.contained.1), h.contained.2); passes = h.passes }

found_by : {X : Type 0} (test : X → Bool) (y : X) (xs : List X) (x : X) (b : Bool) → test y ≡ b
    → (find test xs ≡ Some x → IsFound test xs x) → cond b (Some y) (find test xs) ≡ Some x → IsFound test (y ∷ xs) x
found_by test y xs x true h more is =
    let same : y ≡ x = cc in
    record { contained = (zero, omega arith, same); passes = subst (λ z. test z ≡ true) same h }
found_by test y xs x false h more is = later test y xs x (more is)

found : {X : Type 0} (test : X → Bool) (xs : List X) (x : X) → find test xs ≡ Some x → IsFound test xs x
found test [] x is = cc
found test (y ∷ xs) x is = found_by test y xs x (test y) refl (found test xs x) (ap (λ b. cond b (Some y) (find test xs)) refl ∙ is)

-- the longest front that passes
all_by : (q : ℕ → Bool) (x : ℕ) (xs : List ℕ) (b : Bool) → q x ≡ b → list_all q (take (prefix_len q xs) xs) ≡ true → list_all q (take (prefix_len q (x ∷ xs)) (x ∷ xs)) ≡ true
all_by q x xs true h all = rw (h, one-add) (rw (h, all))
all_by q x xs false h all = rw h

pub front_passes : (q : ℕ → Bool) (xs : List ℕ) → list_all q (take (prefix_len q xs) xs) ≡ true
front_passes q [] = refl
front_passes q (x ∷ xs) = all_by q x xs (q x) refl (front_passes q xs)

-- the first element fails the test, if there is one
abbrev pub StartsFailing : (ℕ → Bool) → List ℕ → Type 0
StartsFailing q [] = Unit {0}
StartsFailing q (x ∷ xs) = q x ≡ false

pub front_is : (q : ℕ → Bool) (front rest : List ℕ) → list_all q front ≡ true → StartsFailing q rest → prefix_len q (front ++ rest) ≡ length front
front_is q [] [] all fails = refl
front_is q [] (x ∷ rest) all fails = rw fails
front_is q (x ∷ front) rest all fails =
    let both = and_parts (q x) (list_all q front) all in
    let first = both.0 in
    rw first (one-add (prefix_len q (front ++ rest)) ∙ ap suc (front_is q front rest both.1 fails))

-- a suffix begins with no digit and no `x`, and is found by its text
abbrev begins_plain : List ℕ → Bool
begins_plain [] = true
begins_plain (b ∷ bytes) = not (is_ascii_hexdigit b) && not (nat_eq 120 b)

abbrev IsPlain : Suffix → Type 0
IsPlain suffix = (begins_plain suffix.text ≡ true) × (suffix_of suffix.text ≡ Some suffix)

plain : (suffix : Suffix) → Contains suffixes suffix → IsPlain suffix
plain suffix h = entry_at IsPlain suffixes suffix h.0 ((refl, refl), ((refl, refl), ((refl, refl), ((refl, refl), ((refl, refl), ((refl, refl), ((refl, refl), tt))))))) h.1 h.2

digit_is_hexadecimal : (b : ℕ) → is_ascii_digit b ≡ true → is_ascii_hexdigit b ≡ true
digit_is_hexadecimal b h = grind (arith, nat_tests)

no_digit : (b : ℕ) (c : Bool) → is_ascii_digit b ≡ c → is_ascii_hexdigit b ≡ false → c ≡ false
no_digit b true h k = sym (digit_is_hexadecimal b h) ∙ k
no_digit b false h k = refl

fails_digit : (base : Base) (text : List ℕ) → begins_plain text ≡ true → StartsFailing (is_digit_of base) text
fails_digit base [] h = tt
fails_digit Decimal (b ∷ bytes) h = no_digit b (is_ascii_digit b) refl (not-true (is_ascii_hexdigit b) (and_parts _ _ h).0)
fails_digit Hexadecimal (b ∷ bytes) h = not-true (is_ascii_hexdigit b) (and_parts _ _ h).0

no_letter : (b : ℕ) → is_ascii_digit b ≡ true → nat_eq 120 b ≡ false
no_letter b h = grind (arith, nat_tests)

-- decimal digits and a suffix do not begin with `0x`
no_prefix : (digits text : List ℕ) → list_all is_ascii_digit digits ≡ true → 0 < length digits → begins_plain text ≡ true → starts_with nat_eq (digits ++ text) (codes "0x") ≡ false
no_prefix [] text all some h = absurd (omega arith)
no_prefix (a ∷ []) [] all some h = grind (arith, nat_tests)
no_prefix (a ∷ []) (b ∷ text) all some h =
    let letter : nat_eq 120 b ≡ false = not-true (nat_eq 120 b) (and_parts (not (is_ascii_hexdigit b)) (not (nat_eq 120 b)) h).1 in
    rw letter (grind (arith, nat_tests))
no_prefix (a ∷ b ∷ digits) text all some h =
    let digit : is_ascii_digit b ≡ true = (and_parts _ _ (and_parts (is_ascii_digit a) _ all).1).0 in
    let letter = no_letter b digit in
    rw letter (grind (arith, nat_tests))

base_by : (base : Base) (digits text : List ℕ) → are_digits base digits ≡ true → begins_plain text ≡ true → base_of (prefix_of base ++ (digits ++ text)) ≡ base
base_by Decimal digits text h k =
    let some = and_parts _ (list_all is_ascii_digit digits && may_lead Decimal digits) h in
    ap (λ t. if t then Hexadecimal else Decimal) (no_prefix digits text (and_parts (list_all is_ascii_digit digits) _ some.1).0 (grind (arith, nat_tests)) k)
base_by Hexadecimal digits text h k = refl

-- a spelled number is told
told_by : (base : Base) (digits : List ℕ) (suffix : Suffix) (type : NumberType) → are_digits base digits ≡ true → IsPlain suffix
    → type_for (ranges_of base suffix) (digits_value (radix_of base) digits) ≡ Some type
    → number_by base digits suffix.text ≡ Some (record { number_type = type; value = digits_value (radix_of base) digits })
told_by base digits suffix type are is has = rw (are, is.1, has)

behind_by : (base : Base) (digits text : List ℕ) → list_all (is_digit_of base) digits ≡ true → begins_plain text ≡ true → number_behind base (digits ++ text) ≡ number_by base digits text
behind_by base digits text all h =
    let count = front_is (is_digit_of base) digits text all (fails_digit base text h) in
    ap (λ n. number_by base (take n (digits ++ text)) (drop n (digits ++ text))) count
    ∙ ap (λ ds. number_by base ds (drop (length digits) (digits ++ text))) (take-append_seam digits text)
    ∙ ap (number_by base digits) (drop-append_seam digits text)

number_by_base : (base : Base) (text : List ℕ) → base_of (prefix_of base ++ text) ≡ base → number_of (prefix_of base ++ text) ≡ number_behind base text
number_by_base base text h =
    ap (λ b. number_behind b (drop (length (prefix_of b)) (prefix_of base ++ text))) h ∙ ap (number_behind base) (drop-append_seam (prefix_of base) text)

spelled_is_told : (word : List ℕ) (number : Number) → IsNumber word number → number_of word ≡ Some number
spelled_is_told word number h =
    let is = plain h.suffix h.listed in
    let all = (and_parts (list_all (is_digit_of h.base) h.digits) _ (and_parts _ (list_all (is_digit_of h.base) h.digits && may_lead h.base h.digits) h.digits_are).1).0 in
    let text = h.suffix.text in
    let type = subst (λ v. type_for (ranges_of h.base h.suffix) v ≡ Some number.number_type) h.value h.type in
    ap number_of h.parts
    ∙ number_by_base h.base (h.digits ++ text) (base_by h.base h.digits text h.digits_are is.0)
    ∙ behind_by h.base h.digits text all is.0
    ∙ told_by h.base h.digits h.suffix number.number_type h.digits_are is type
    ∙ ap (λ v. Some (record { number_type = number.number_type; value = v })) (sym h.value)

prefix_by : (b : Bool) (word : List ℕ) → starts_with nat_eq word (codes "0x") ≡ b → word ≡ prefix_of (if b then Hexadecimal else Decimal) ++ drop (length (prefix_of (if b then Hexadecimal else Decimal))) word
prefix_by true word h =
    sym (take-append-drop 2 word) ∙ ap (λ front. front ++ drop 2 word) (sym ((bytes_eq-Decides (codes "0x") (take 2 word)).0 h))
prefix_by false word h = refl

abbrev value_in : Option Number → ℕ
value_in None = 0
value_in (Some number) = number.value

abbrev type_in : Option Number → NumberType
type_in None = Int
type_in (Some number) = number.number_type

-- a told number is spelled
some_range : (base : Base) (suffix : Suffix) (value : ℕ) (number : Number) (o : Option NumberType)
    → o ≡ type_for (ranges_of base suffix) value → option_map (λ found. record { number_type = found; value = value }) o ≡ Some number
    → (number.value ≡ value) × (type_for (ranges_of base suffix) value ≡ Some number.number_type)
some_range base suffix value number None is has = cc
some_range base suffix value number (Some type) is has =
    let value_is : value ≡ number.value = ap value_in has in
    let type_is : type ≡ number.number_type = ap type_in has in
    (sym value_is, sym is ∙ ap Some type_is)

spelled_by : (word : List ℕ) (base : Base) (digits text : List ℕ) (number : Number) (b : Bool) (o : Option Suffix)
    → word ≡ prefix_of base ++ (digits ++ text) → are_digits base digits ≡ b → suffix_of text ≡ o
    → (if b then option_and_then (λ suffix. number_with (ranges_of base suffix) (digits_value (radix_of base) digits)) o else None) ≡ Some number
    → IsNumber word number
spelled_by word base digits text number false o parts are is has = cc
spelled_by word base digits text number true None parts are is has = cc
spelled_by word base digits text number true (Some suffix) parts are is has =
    let in_table = found (λ (s : Suffix). bytes_eq text s.text) suffixes suffix is in
    let same = (bytes_eq-Decides text suffix.text).0 in_table.passes in
    let fits = some_range base suffix (digits_value (radix_of base) digits) number (type_for (ranges_of base suffix) (digits_value (radix_of base) digits)) refl has in
    record {
      base = base;
      digits = digits;
      suffix = suffix;
      parts = parts ∙ ap (λ t. prefix_of base ++ (digits ++ t)) same;
      digits_are = are;
      listed = in_table.contained;
      value = fits.0;
      type = subst (λ v. type_for (ranges_of base suffix) v ≡ Some number.number_type) (sym fits.0) fits.1;
    }

told_is_spelled : (word : List ℕ) (number : Number) → number_of word ≡ Some number → IsNumber word number
told_is_spelled word number has =
    let base = base_of word in
    let text = drop (length (prefix_of base)) word in
    let count = prefix_len (is_digit_of base) text in
    let parts = prefix_by (starts_with nat_eq word (codes "0x")) word refl ∙ ap (λ t. prefix_of base ++ t) (sym (take-append-drop count text)) in
    spelled_by word base (take count text) (drop count text) number (are_digits base (take count text)) (suffix_of (drop count text)) parts refl refl has

pub told : (word : List ℕ) (number : Number) → (number_of word ≡ Some number) ↔ IsNumber word number
told word number = (told_is_spelled word number, spelled_is_told word number)

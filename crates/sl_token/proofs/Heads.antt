-- How pieces begin, and the pieces that are runs of bytes of a kind.
use Rattle.std.proofs.Common.{◌≡◌, ℕ, zero, suc, ◌+◌, ◌≤◌, Bool, true, false, not, eqb, ◌&&◌, List, [], ◌∷◌, ◌++◌, length, take, drop, refl, sym, ap, subst, ◌∙◌, ⊎_elim, arith}
use Rattle.std.specs.Prelude.{◌==◌, codes}
use Rattle.std.specs.List.{list_all, list_any, prefix_len}
use Rattle.std.specs.Str.{bytes_eq}
use Rattle.std.proofs.lemmas.Bool.{and_parts, and_from, or_cases, not-true, false≢true, eq-eqb}
use Rattle.std.proofs.lemmas.Bool.Decides.{nat_tests}
use Rattle.std.proofs.lemmas.List.{length-take-le, take-append-drop}
use Rattle.std.proofs.lemmas.List.Sums.{prefix_len-le-length}
use Rattle.std.proofs.lemmas.Slice.Eq.{bytes_eq-Decides}
use Rattle.def_token.specs.Lexeme.{Class, Space, Comment, OpenComment, Word, Quoted, OpenQuoted, Symbol, Stray, IsPiece, IsRun, IsLineComment, IsBlockComment, begins_nothing, Front}
use Rattle.def_token.specs.Mark.{marks, is_mark}
use Rattle.def_slang.specs.Name.{is_word_byte}
use Rattle.def_slang.specs.Token.{is_white}
use Rattle.sl_token.specs.Cutting.{Cut, piece_by}
use Rattle.sl_token.proofs.Runs.{front_passes, front_longest, one_further}

-- a front of the text that is a piece, and so is no longer one
pub record IsFirst (text : List ℕ) (cut : Cut) : Type 0 where
  pub within : cut.1 ≤ length text
  pub kind : IsPiece cut.0 (take cut.1 text)
  pub longest : (class : Class) (k : ℕ) → k ≤ length text → IsPiece class (take k text) → k ≤ cut.1

pub front_of : (text : List ℕ) (cut : Cut) → IsFirst text cut → Front text (piece_by text cut) (drop cut.1 text)
front_of text cut h =
    let len = length-take-le cut.1 text h.within in
    record {
      parts = sym (take-append-drop cut.1 text);
      kind = h.kind;
      longest = λ class k short piece. omega (arith, len, h.longest class k short piece);
    }

pub add-two : (n : ℕ) → suc (suc n) ≡ n + 2
add-two n = omega arith

pub add-four : (n : ℕ) → suc (suc (n + 2)) ≡ n + 4
add-four n = omega arith

pub add-one' : (n : ℕ) → suc n ≡ n + 1
add-one' n = omega arith

-- how pieces of each class begin
abbrev pub begins_sign : ℕ → Bool
begins_sign b = (not (is_white b) && not (is_word_byte b)) && not (b == 34)

abbrev pub Begins : Class → ℕ → Type 0
Begins Space b = is_white b ≡ true
Begins Comment b = b ≡ 47
Begins OpenComment b = b ≡ 47
Begins Word b = is_word_byte b ≡ true
Begins Quoted b = b ≡ 34
Begins OpenQuoted b = b ≡ 34
Begins Symbol b = begins_sign b ≡ true
Begins Stray b = begins_sign b ≡ true

pub head_is : (b c : ℕ) (xs ys : List ℕ) → b ∷ xs ≡ c ∷ ys → b ≡ c
head_is b c xs ys h = cc

pub tail_is : (b c : ℕ) (xs ys : List ℕ) → b ∷ xs ≡ c ∷ ys → xs ≡ ys
tail_is b c xs ys h = cc

-- a test that holds in the whole table holds at each entry
pub at_entry : (test : List ℕ → Bool) (table : List (List ℕ)) (bytes : List ℕ) → list_all test table ≡ true → list_any (bytes_eq bytes) table ≡ true → test bytes ≡ true
at_entry test [] bytes all any = absurd (false≢true any)
at_entry test (entry ∷ table) bytes all any =
    let both = and_parts (test entry) (list_all test table) all in
    ⊎_elim
    (λ same. subst (λ bs. test bs ≡ true) (sym ((bytes_eq-Decides bytes entry).0 same)) both.0)
    (λ later. at_entry test table bytes both.1 later)
    (or_cases (bytes_eq bytes entry) (list_any (bytes_eq bytes) table) any)

abbrev begins_with_sign : List ℕ → Bool
begins_with_sign [] = false
begins_with_sign (b ∷ bytes) = begins_sign b

nothing_is_no_other : (b : ℕ) → begins_nothing b ≡ true → begins_sign b ≡ true
nothing_is_no_other b h =
    let parts = and_parts (not (is_white b) && not (is_word_byte b)) (not (b == 34) && not (is_mark (b ∷ []))) h in
    and_from (not (is_white b) && not (is_word_byte b)) (not (b == 34)) parts.0 (and_parts (not (b == 34)) (not (is_mark (b ∷ []))) parts.1).0

pub begins : (class : Class) (b : ℕ) (bytes : List ℕ) → IsPiece class (b ∷ bytes) → Begins class b
begins Space b bytes h = (and_parts (is_white b) (list_all is_white bytes) h.all).0
begins Comment b bytes h = ⊎_elim (λ (line : IsLineComment (b ∷ bytes)). head_is b 47 bytes (47 ∷ line.body) line.parts) (λ (block : IsBlockComment (b ∷ bytes)). head_is b 47 bytes (42 ∷ (block.body ++ codes "*/")) block.parts) h
begins OpenComment b bytes h = head_is b 47 bytes (42 ∷ h.body) h.parts
begins Word b bytes h = (and_parts (is_word_byte b) (list_all is_word_byte bytes) h.all).0
begins Quoted b bytes h = head_is b 34 bytes (h.body ++ codes "\"") h.parts
begins OpenQuoted b bytes h = head_is b 34 bytes h.body h.parts
begins Symbol b bytes h = at_entry begins_with_sign marks (b ∷ bytes) refl h
begins Stray b bytes h = subst (λ c. begins_sign c ≡ true) (sym (head_is b h.byte bytes [] h.parts)) (nothing_is_no_other h.byte h.nothing)

fails_at : (test : ℕ → Bool) (b c : ℕ) → test b ≡ true → b ≡ c → test c ≡ false → ⊥
fails_at test b c h same fails = false≢true (sym fails ∙ ap test (sym same) ∙ h)

word_not_white : (b : ℕ) → is_word_byte b ≡ true → is_white b ≡ false
word_not_white b h = grind (arith, nat_tests)

sign_not_white : (b : ℕ) → begins_sign b ≡ true → is_white b ≡ false
sign_not_white b h = not-true (is_white b) (and_parts (not (is_white b)) (not (is_word_byte b)) (and_parts (not (is_white b) && not (is_word_byte b)) (not (b == 34)) h).0).0

sign_not_word : (b : ℕ) → begins_sign b ≡ true → is_word_byte b ≡ false
sign_not_word b h = not-true (is_word_byte b) (and_parts (not (is_white b)) (not (is_word_byte b)) (and_parts (not (is_white b) && not (is_word_byte b)) (not (b == 34)) h).0).1

pub both_ways : (t : Bool) → t ≡ true → t ≡ false → ⊥
both_ways t h k = false≢true (sym k ∙ h)

white_alone : (class : Class) (b : ℕ) → is_white b ≡ true → Begins class b → class ≡ Space
white_alone Space b h k = refl
white_alone Comment b h k = absurd (fails_at is_white b 47 h k refl)
white_alone OpenComment b h k = absurd (fails_at is_white b 47 h k refl)
white_alone Word b h k = absurd (both_ways (is_white b) h (word_not_white b k))
white_alone Quoted b h k = absurd (fails_at is_white b 34 h k refl)
white_alone OpenQuoted b h k = absurd (fails_at is_white b 34 h k refl)
white_alone Symbol b h k = absurd (both_ways (is_white b) h (sign_not_white b k))
white_alone Stray b h k = absurd (both_ways (is_white b) h (sign_not_white b k))

word_alone : (class : Class) (b : ℕ) → is_word_byte b ≡ true → Begins class b → class ≡ Word
word_alone Space b h k = absurd (both_ways (is_white b) k (word_not_white b h))
word_alone Comment b h k = absurd (fails_at is_word_byte b 47 h k refl)
word_alone OpenComment b h k = absurd (fails_at is_word_byte b 47 h k refl)
word_alone Word b h k = refl
word_alone Quoted b h k = absurd (fails_at is_word_byte b 34 h k refl)
word_alone OpenQuoted b h k = absurd (fails_at is_word_byte b 34 h k refl)
word_alone Symbol b h k = absurd (both_ways (is_word_byte b) h (sign_not_word b k))
word_alone Stray b h k = absurd (both_ways (is_word_byte b) h (sign_not_word b k))

run_longest : (test : ℕ → Bool) (b : ℕ) (bytes : List ℕ) (class : Class) (k : ℕ) → k ≤ length (b ∷ bytes)
    → ((j : ℕ) → IsPiece class (b ∷ take j bytes) → list_all test (b ∷ take j bytes) ≡ true) → IsPiece class (take k (b ∷ bytes)) → k ≤ prefix_len test (b ∷ bytes)
run_longest test b bytes class zero short of piece = omega arith
run_longest test b bytes class (suc j) short of piece = front_longest test (b ∷ bytes) (suc j) short (of j piece)

-- a run of bytes of a kind, where no other class begins with one
run_first : (test : ℕ → Bool) (class : Class) (b : ℕ) (bytes : List ℕ) → test b ≡ true
    → ((bs : List ℕ) → IsRun test bs → IsPiece class bs)
    → ((other : Class) (k : ℕ) → IsPiece other (b ∷ take k bytes) → IsRun test (b ∷ take k bytes))
    → IsFirst (b ∷ bytes) (class, prefix_len test (b ∷ bytes))
run_first test class b bytes h of alone =
    let count = one_further test b bytes h in
    let within = prefix_len-le-length test (b ∷ bytes) in
    record {
      within = within;
      kind = of (take (prefix_len test (b ∷ bytes)) (b ∷ bytes))
          (record {
            some = omega (arith, count, length-take-le (prefix_len test (b ∷ bytes)) (b ∷ bytes) within);
            all = front_passes test (b ∷ bytes);
          });
      longest = λ other k short piece. run_longest test b bytes other k short (λ j is. (alone other j is).all) piece;
    }

pub space_first : (b : ℕ) (bytes : List ℕ) → is_white b ≡ true → IsFirst (b ∷ bytes) (Space, prefix_len is_white (b ∷ bytes))
space_first b bytes h =
    run_first is_white Space b bytes h (λ bs run. run)
    (λ other k piece. subst (λ c. IsPiece c (b ∷ take k bytes)) (white_alone other b h (begins other b (take k bytes) piece)) piece)

pub word_first : (b : ℕ) (bytes : List ℕ) → is_word_byte b ≡ true → IsFirst (b ∷ bytes) (Word, prefix_len is_word_byte (b ∷ bytes))
word_first b bytes h =
    run_first is_word_byte Word b bytes h (λ bs run. run)
    (λ other k piece. subst (λ c. IsPiece c (b ∷ take k bytes)) (word_alone other b h (begins other b (take k bytes) piece)) piece)

pub apart : (a b : ℕ) → eqb a b ≡ false → a ≡ b → ⊥
apart a b differ same = false≢true (sym differ ∙ eq-eqb a b same)

-- The words of a text, pushed one at a time.
use Rattle.std.proofs.Common.{◌≡◌, ◌∙◌, ℕ, ◌-◌, ◌≤◌, List, [], ◌∷◌, ◌++◌, length, get_or, take, drop, ap, sym, append_assoc, arith}
use Rattle.std.proofs.Math.Seq.{take-append_seam, take-length}
use Rattle.def_spirv.specs.Words.{text_words, word_of}
use Rattle.sp_words.specs.Text.{AppendsSome}

-- some words of a text are pushed, and the words of the rest are the others
pub record HasPushed (text old new rest : List ℕ) : Type 0 where
  pub pushed : List ℕ
  pub appended : new ≡ old ++ pushed
  pub split : text_words text ≡ pushed ++ text_words rest

-- the first word of a text of four bytes or more
abbrev pub first_word : List ℕ → ℕ
first_word s = word_of (get_or s 0 0) (get_or s 1 0) (get_or s 2 0) (get_or s 3 0)

-- the text without its first four bytes, as a slice pattern takes it
abbrev pub after_four : List ℕ → List ℕ
after_four s = take (length s - 4) (drop 4 s)

text_words-four : (s : List ℕ) →
    4 ≤ length s → text_words s ≡ first_word s ∷ text_words (after_four s)
text_words-four [] h = absurd (omega arith)
text_words-four (a ∷ []) h = absurd (omega arith)
text_words-four (a ∷ b ∷ []) h = absurd (omega arith)
text_words-four (a ∷ b ∷ c ∷ []) h = absurd (omega arith)
text_words-four (a ∷ b ∷ c ∷ d ∷ rest) h =
    let e : length (a ∷ b ∷ c ∷ d ∷ rest) - 4 ≡ length rest = omega arith in
    rw (e, take-length rest)

-- one more word is pushed
pub HasPushed-word : {text old new next rest : List ℕ} {word : ℕ} →
    HasPushed text old new rest → 4 ≤ length rest → word ≡ first_word rest →
    next ≡ new ++ word ∷ [] → HasPushed text old next (after_four rest)
HasPushed-word {old = old} {rest = rest} {word = word} h long is next_is =
    let four : text_words rest ≡ word ∷ text_words (after_four rest) =
    rw is (text_words-four rest long) in
    record {
      pushed = h.pushed ++ word ∷ [];
      appended =
          next_is ∙ ap (λ s. s ++ word ∷ []) h.appended ∙ append_assoc old h.pushed (word ∷ []);
      split =
          h.split ∙ ap (λ s. h.pushed ++ s) four ∙
          sym (append_assoc h.pushed (word ∷ []) (text_words (after_four rest)));
    }

-- what is pushed is the first of the text's words
pub HasPushed-some : {text old new rest : List ℕ} →
    HasPushed text old new rest → AppendsSome (text_words text) old new
HasPushed-some {text = text} {old = old} {rest = rest} h =
    let first : h.pushed ≡ take (length h.pushed) (text_words text) =
    rw h.split (sym (take-append_seam h.pushed (text_words rest))) in
    (length h.pushed, h.appended ∙ ap (λ s. old ++ s) first)

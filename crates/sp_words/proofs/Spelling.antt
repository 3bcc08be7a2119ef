-- Bytes are the spelling of one module at most, and decode to one answer.
use Rattle.std.proofs.Common.{◌≡◌, ◌∙◌, ℕ, ◌+◌, ◌*◌, ◌^◌, ◌<◌, List, [], ◌∷◌, ◌++◌, length, refl, ap, ap₂, sym, append_assoc, lit<, arith}
use Rattle.std.specs.List.{All, flat_map}
use Rattle.std.proofs.lemmas.List.Elements.{All-nil, All-cons, All-append, All-head, All-tail}
use Rattle.std.proofs.lemmas.Nat.{from_le_bytes-to_le_bytes_4}
use Rattle.def_spirv.specs.Words.{Instruction, Module, instruction_words, module_words, magic, schema, version, word_bytes}
use Rattle.sp_words.specs.Decoding.{IsSpellable, IsSpellableModule, OneSpelling, words_of}

-- every word fits 32 bits
abbrev pub AreWords : List ℕ → Type 0
AreWords words = All (λ n. n < 2 ^ 32) words

-- the words of the bytes of words
pub words_of-word_bytes : (words : List ℕ) → AreWords words → words_of (word_bytes words) ≡ words
words_of-word_bytes [] fits = refl
words_of-word_bytes (w ∷ words) fits =
    ap₂ ◌∷◌ (from_le_bytes-to_le_bytes_4 w (All-head (λ n. n < 2 ^ 32) w words fits))
    (words_of-word_bytes words (All-tail (λ n. n < 2 ^ 32) w words fits))

-- words whose bytes are the same are the same
pub word_bytes-one : (words others : List ℕ) → AreWords words → AreWords others →
    word_bytes words ≡ word_bytes others → words ≡ others
word_bytes-one words others f g same =
    sym (words_of-word_bytes words f) ∙ ap words_of same ∙ words_of-word_bytes others g

-- the words of an instruction fit 32 bits
pub instruction_words-fit : (i : Instruction) → IsSpellable i → AreWords (instruction_words i)
instruction_words-fit i s =
    All-cons (λ n. n < 2 ^ 32) (2 ^ 16 * (length i.operands + 1) + i.opcode) i.operands
    (omega (arith, s.opcode, s.count)) s.operands

pub instructions-fit : (is : List Instruction) → All IsSpellable is → AreWords (flat_map instruction_words is)
instructions-fit [] s = All-nil (λ n. n < 2 ^ 32)
instructions-fit (i ∷ is) s =
    All-append (λ n. n < 2 ^ 32) (instruction_words i) (flat_map instruction_words is)
    (instruction_words-fit i (All-head IsSpellable i is s)) (instructions-fit is (All-tail IsSpellable i is s))

pub module_words-fit : (m : Module) → IsSpellableModule m → AreWords (module_words m)
module_words-fit m s =
    let flat = flat_map instruction_words m.instructions in
    let P : ℕ → Type 0 = λ n. n < 2 ^ 32 in
    All-cons P magic (version ∷ m.generator ∷ m.bound ∷ schema ∷ flat) (lit< tt)
    (All-cons P version (m.generator ∷ m.bound ∷ schema ∷ flat) (lit< tt)
    (All-cons P m.generator (m.bound ∷ schema ∷ flat) s.generator
    (All-cons P m.bound (schema ∷ flat) s.bound
    (All-cons P schema flat (lit< tt) (instructions-fit m.instructions s.instructions)))))

-- the first of two lists that are as long as each other, in front of others
front : (xs ys s t : List ℕ) → length xs ≡ length ys → xs ++ s ≡ ys ++ t → (xs ≡ ys) × (s ≡ t)
front [] [] s t l e = (refl, e)
front [] (y ∷ ys) s t l e = absurd (omega arith)
front (x ∷ xs) [] s t l e = absurd (omega arith)
front (x ∷ xs) (y ∷ ys) s t l e =
    let head : x ≡ y = cc in
    let tail : xs ++ s ≡ ys ++ t = cc in
    let rest = front xs ys s t (omega arith) tail in
    (ap₂ ◌∷◌ head rest.0, rest.1)

-- two instructions that stand in front of the same words are the same
pub same_front : (i j : Instruction) (s t : List ℕ) → IsSpellable i → IsSpellable j →
    instruction_words i ++ s ≡ instruction_words j ++ t → (i ≡ j) × (s ≡ t)
same_front i j s t f g e =
    let heads : 2 ^ 16 * (length i.operands + 1) + i.opcode ≡ 2 ^ 16 * (length j.operands + 1) + j.opcode = cc in
    let tails : i.operands ++ s ≡ j.operands ++ t = cc in
    let opcode : i.opcode ≡ j.opcode = omega (arith, f.opcode, g.opcode) in
    let rest = front i.operands j.operands s t (omega (arith, f.opcode, g.opcode)) tails in
    (ap₂ (λ o os. let r : Instruction = record { opcode = o; operands = os } in r) opcode rest.0, rest.1)

-- no instruction of a kind stands in front of the words
abbrev pub BeginsNothing : (Instruction → Type 0) → List ℕ → Type 0
BeginsNothing P words = (i : Instruction) (behind : List ℕ) → P i → words ≡ instruction_words i ++ behind → ⊥

module _ (P : Instruction → Type 0) (spellable : (i : Instruction) → P i → IsSpellable i) where
  -- words are one list of instructions, with words behind them that begin none
  pub same_split : (is js : List Instruction) (r s : List ℕ) → All P is → All P js →
      BeginsNothing P r → BeginsNothing P s →
      flat_map instruction_words is ++ r ≡ flat_map instruction_words js ++ s → (is ≡ js) × (r ≡ s)
  same_split [] [] r s f g none others e = (refl, e)
  same_split [] (j ∷ js) r s f g none others e =
      absurd (none j (flat_map instruction_words js ++ s) (All-head P j js g)
      (e ∙ append_assoc (instruction_words j) (flat_map instruction_words js) s))
  same_split (i ∷ is) [] r s f g none others e =
      absurd (others i (flat_map instruction_words is ++ r) (All-head P i is f)
      (sym e ∙ append_assoc (instruction_words i) (flat_map instruction_words is) r))
  same_split (i ∷ is) (j ∷ js) r s f g none others e =
      let whole : instruction_words i ++ (flat_map instruction_words is ++ r) ≡
      instruction_words j ++ (flat_map instruction_words js ++ s) =
      sym (append_assoc (instruction_words i) (flat_map instruction_words is) r) ∙ e
      ∙ append_assoc (instruction_words j) (flat_map instruction_words js) s in
      let one = same_front i j _ _ (spellable i (All-head P i is f)) (spellable j (All-head P j js g)) whole in
      let rest = same_split is js r s (All-tail P i is f) (All-tail P j js g) none others one.1 in
      (ap₂ ◌∷◌ one.0 rest.0, rest.1)

pub nil_begins_nothing : (P : Instruction → Type 0) → BeginsNothing P []
nil_begins_nothing P i behind p e = cc

pub one_spelling : OneSpelling
one_spelling m n f g same =
    let words : module_words m ≡ module_words n =
    word_bytes-one (module_words m) (module_words n) (module_words-fit m f) (module_words-fit n g) same in
    let generator : m.generator ≡ n.generator = cc in
    let bound : m.bound ≡ n.bound = cc in
    let flat : flat_map instruction_words m.instructions ≡ flat_map instruction_words n.instructions = cc in
    let all = same_split IsSpellable (λ i s. s) m.instructions n.instructions [] [] f.instructions g.instructions
    (nil_begins_nothing IsSpellable) (nil_begins_nothing IsSpellable) (ap (λ s. s ++ []) flat) in
    λ k. record { generator = generator k; bound = bound k; instructions = all.0 k }

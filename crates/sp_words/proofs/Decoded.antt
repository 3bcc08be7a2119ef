-- What bytes decode to is one answer, and the decoder's parts together give it.
use Rattle.std.proofs.Common.{◌≡◌, ◌∙◌, ℕ, zero, suc, ◌+◌, ◌-◌, ◌*◌, ◌/◌, ◌%◌, ◌^◌, ◌<◌, ◌≤◌, ◌⊎◌, inl, inr, nat_eq, true, false, cond, Option, Some, None, List, [], ◌∷◌, ◌++◌, length, get_or, drop, slice_index, Fits, w8, Result, Ok, Err, IfOk, IfErr, refl, ap, ap₂, sym, lit<, subst, length-append, length-drop, arith}
use Rattle.std.specs.List.{flat_map}
use Rattle.std.proofs.lemmas.Bool.{eq-eqb, ne_eqb}
use Rattle.std.proofs.lemmas.Bool.Decides.{nat_tests}
use Rattle.std.proofs.lemmas.List.{append-nil}
use Rattle.std.proofs.lemmas.List.Elements.{All-weaker}
use Rattle.std.proofs.lemmas.Nat.{le_bytes_4}
use Rattle.def_spirv.specs.Table.{is_known}
use Rattle.def_spirv.specs.Words.{Instruction, Module, instruction_words, module_words, magic, schema, version, word_bytes, word_of}
use Rattle.sp_words.proofs.Instructions.{first-count, first-opcode}
use Rattle.sp_words.proofs.Spelling.{BeginsNothing, nil_begins_nothing, module_words-fit, one_spelling, same_split, words_of-word_bytes}
use Rattle.sp_words.specs.Decoding.{BeginsNone, Decodes, HasHeader, IsInUse, IsRefusedBy, IsSpellable, IsSpellableModule, IsSpellingOf, OneAnswer, Refuses, Stops, are_words, is_bad_count, words_of}
use Rattle.sp_words.specs.Reading.{AreModule, HasHead, ReadsModule, RefusesWords, StopsBehind}
use Rattle.sp_words.specs.View.{module_of}
use Rattle.sp_words.specs.declared.instruction.Words.{Words}
use Rattle.sp_words.specs.declared.decoding.WordRefusal.{WordRefusal}
use Rattle.sp_words.specs.declared.decoding.WordRefusal.TheVariants.{NotWords, BadMagic, BadVersion, BadSchema, BadCount, Unknown, NoMemory}

length-word_bytes : (words : List ℕ) → length (word_bytes words) ≡ 4 * length words
length-word_bytes [] = refl
length-word_bytes (w ∷ words) = omega (arith, length-word_bytes words)

are_words-true : (bytes : List ℕ) → 20 ≤ length bytes → length bytes % 4 ≡ 0 → are_words bytes ≡ true
are_words-true bytes long whole = grind (arith, nat_tests)

-- the words of an instruction of the table are no reason for a refusal
bad_count-front : (i : Instruction) (behind : List ℕ) → IsInUse i →
    is_bad_count (instruction_words i ++ behind) ≡ false
bad_count-front i behind u =
    let long : length (i.operands ++ behind) ≡ length i.operands + length behind = length-append i.operands behind in
    let count = first-count (length i.operands) i.opcode u.spellable.opcode in
    rw count (grind (arith, nat_tests, long))

none-nothing : (place : ℕ) (rest : List ℕ) (refusal : WordRefusal) →
    BeginsNone place rest refusal → BeginsNothing IsInUse rest
none-nothing place rest (BadCount at) none i behind u is =
    let bad : is_bad_count (instruction_words i ++ behind) ≡ true = rw is at none.1 in
    let good = bad_count-front i behind u in
    cc
none-nothing place rest (Unknown at op) none i behind u is =
    let known = u.known in
    let halves = first-opcode (length i.operands) i.opcode u.spellable.opcode in
    let same : op ≡ i.opcode = none.2 ∙ ap (λ s. slice_index s 0 % 2 ^ 16) is ∙ halves in
    let unknown : is_known op ≡ false = none.3 in
    cc
none-nothing place rest NotWords none i behind u is = absurd none
none-nothing place rest BadMagic none i behind u is = absurd none
none-nothing place rest BadVersion none i behind u is = absurd none
none-nothing place rest BadSchema none i behind u is = absurd none
none-nothing place rest NoMemory none i behind u is = absurd none

-- the module that bytes are the spelling of can be spelled
spellable-of : (m : Module) (bytes : List ℕ) → IsSpellingOf m bytes → IsSpellableModule m
spellable-of m bytes h = record {
  generator = h.generator;
  bound = h.bound;
  instructions = All-weaker IsInUse IsSpellable (λ i u. u.spellable) m.instructions h.instructions;
}

words-of : (m : Module) (bytes : List ℕ) → IsSpellingOf m bytes → words_of bytes ≡ module_words m
words-of m bytes h =
    ap words_of h.spelled ∙ words_of-word_bytes (module_words m) (module_words-fit m (spellable-of m bytes h))

-- such bytes have a header
header-of : (m : Module) (bytes : List ℕ) → IsSpellingOf m bytes → HasHeader bytes
header-of m bytes h =
    let words = words-of m bytes h in
    let long : length bytes ≡ 4 * length (module_words m) = ap length h.spelled ∙ length-word_bytes (module_words m) in
    record {
      words = are_words-true bytes (omega arith) (omega arith);
      magic = ap (λ s. slice_index s 0) words;
      version = ap (λ s. slice_index s 1) words;
      schema = ap (λ s. slice_index s 4) words;
    }

-- a refusal that the header alone decides
early : Result Module WordRefusal → Option WordRefusal
early (Ok m) = None
early (Err NotWords) = Some NotWords
early (Err BadMagic) = Some BadMagic
early (Err BadVersion) = Some BadVersion
early (Err BadSchema) = Some BadSchema
early (Err (BadCount at)) = None
early (Err (Unknown at op)) = None
early (Err NoMemory) = None

early_of : List ℕ → Option WordRefusal
early_of bytes =
    cond (are_words bytes)
    (cond (nat_eq (slice_index (words_of bytes) 0) magic)
    (cond (nat_eq (slice_index (words_of bytes) 1) version)
    (cond (nat_eq (slice_index (words_of bytes) 4) schema) None (Some BadSchema))
    (Some BadVersion))
    (Some BadMagic))
    (Some NotWords)

header-early : (bytes : List ℕ) → HasHeader bytes → early_of bytes ≡ None
unfolding early_of
header-early bytes h =
    let w = h.words in
    let m = eq-eqb (slice_index (words_of bytes) 0) magic h.magic in
    let v = eq-eqb (slice_index (words_of bytes) 1) version h.version in
    let s = eq-eqb (slice_index (words_of bytes) 4) schema h.schema in
    rw (w, m, v, s)

early-is : (bytes : List ℕ) (a : Result Module WordRefusal) → Decodes bytes a → early a ≡ early_of bytes
unfolding early early_of
early-is bytes (Ok m) h = sym (header-early bytes (header-of m bytes h))
early-is bytes (Err NotWords) h = rw h
early-is bytes (Err BadMagic) (w, m) =
    let n = ne_eqb (slice_index (words_of bytes) 0) magic m in rw (w, n)
early-is bytes (Err BadVersion) (w, m, v) =
    let y = eq-eqb (slice_index (words_of bytes) 0) magic m in
    let n = ne_eqb (slice_index (words_of bytes) 1) version v in rw (w, y, n)
early-is bytes (Err BadSchema) (w, m, v, s) =
    let y = eq-eqb (slice_index (words_of bytes) 0) magic m in
    let z = eq-eqb (slice_index (words_of bytes) 1) version v in
    let n = ne_eqb (slice_index (words_of bytes) 4) schema s in rw (w, y, z, n)
early-is bytes (Err (BadCount at)) h = sym (header-early bytes h.0)
early-is bytes (Err (Unknown at op)) h = sym (header-early bytes h.0)
early-is bytes (Err NoMemory) h = absurd h

early-one : (a : Result Module WordRefusal) (refusal : WordRefusal) → early a ≡ Some refusal → a ≡ Err refusal
unfolding early
early-one (Ok m) refusal e = cc
early-one (Err NotWords) refusal e = cc
early-one (Err BadMagic) refusal e = cc
early-one (Err BadVersion) refusal e = cc
early-one (Err BadSchema) refusal e = cc
early-one (Err (BadCount at)) refusal e = cc
early-one (Err (Unknown at op)) refusal e = cc
early-one (Err NoMemory) refusal e = cc

-- of two reasons to stop each stands at the same words
stops-one : {words : List ℕ} {a b : WordRefusal} (x : Stops words a) (y : Stops words b) → x.rest ≡ y.rest
stops-one {words = words} {a = a} {b = b} x y =
    (same_split IsInUse (λ i u. u.spellable) x.before y.before x.rest y.rest x.in_use y.in_use
    (none-nothing (length words - length x.rest) x.rest a x.none)
    (none-nothing (length words - length y.rest) y.rest b y.none)
    (sym x.split ∙ y.split)).1

-- words do not stop where they are a module's
spelled-no_stop : (m : Module) (bytes : List ℕ) (refusal : WordRefusal) →
    IsSpellingOf m bytes → Stops (words_of bytes) refusal → ⊥
spelled-no_stop m bytes refusal h stop =
    let behind : flat_map instruction_words m.instructions ++ [] ≡ flat_map instruction_words stop.before ++ stop.rest =
    append-nil (flat_map instruction_words m.instructions) ∙ sym (ap (drop 5) (words-of m bytes h)) ∙ stop.split in
    let none : [] ≡ stop.rest = (same_split IsInUse (λ i u. u.spellable) m.instructions stop.before [] stop.rest
    h.instructions stop.in_use (nil_begins_nothing IsInUse)
    (none-nothing (length (words_of bytes) - length stop.rest) stop.rest refusal stop.none) behind).1 in
    let short : 0 ≡ length stop.rest = ap length none in
    let long = stop.further in
    absurd (omega arith)

-- two reasons that come late are the same
late-one : (bytes : List ℕ) (a b : WordRefusal) → Stops (words_of bytes) a → Stops (words_of bytes) b → a ≡ b
late-one bytes (BadCount at) (BadCount here) x y =
    let same = stops-one x y in
    ap BadCount (x.none.0 ∙ ap (λ s. length (words_of bytes) - length s) same ∙ sym y.none.0)
late-one bytes (BadCount at) (Unknown here op) x y =
    let bad = x.none.1 in
    let good : is_bad_count y.rest ≡ false = y.none.1 in
    let same = stops-one x y in
    cc
late-one bytes (Unknown at op) (BadCount here) x y =
    let good = x.none.1 in
    let bad : is_bad_count y.rest ≡ true = y.none.1 in
    let same = stops-one x y in
    cc
late-one bytes (Unknown at op) (Unknown here other) x y =
    let same = stops-one x y in
    ap₂ Unknown (x.none.0 ∙ ap (λ s. length (words_of bytes) - length s) same ∙ sym y.none.0)
    (x.none.2 ∙ ap (λ s. slice_index s 0 % 2 ^ 16) same ∙ sym y.none.2)
late-one bytes NotWords b x y = absurd x.none
late-one bytes BadMagic b x y = absurd x.none
late-one bytes BadVersion b x y = absurd x.none
late-one bytes BadSchema b x y = absurd x.none
late-one bytes NoMemory b x y = absurd x.none
late-one bytes a NotWords x y = absurd y.none
late-one bytes a BadMagic x y = absurd y.none
late-one bytes a BadVersion x y = absurd y.none
late-one bytes a BadSchema x y = absurd y.none
late-one bytes a NoMemory x y = absurd y.none

pub one_answer : OneAnswer
unfolding early
one_answer bytes (Err NotWords) b x y = sym (early-one b NotWords (early-is bytes b y ∙ sym (early-is bytes (Err NotWords) x)))
one_answer bytes (Err BadMagic) b x y = sym (early-one b BadMagic (early-is bytes b y ∙ sym (early-is bytes (Err BadMagic) x)))
one_answer bytes (Err BadVersion) b x y = sym (early-one b BadVersion (early-is bytes b y ∙ sym (early-is bytes (Err BadVersion) x)))
one_answer bytes (Err BadSchema) b x y = sym (early-one b BadSchema (early-is bytes b y ∙ sym (early-is bytes (Err BadSchema) x)))
one_answer bytes (Err NoMemory) b x y = absurd x
one_answer bytes a (Err NotWords) x y = early-one a NotWords (early-is bytes a x ∙ sym (early-is bytes (Err NotWords) y))
one_answer bytes a (Err BadMagic) x y = early-one a BadMagic (early-is bytes a x ∙ sym (early-is bytes (Err BadMagic) y))
one_answer bytes a (Err BadVersion) x y = early-one a BadVersion (early-is bytes a x ∙ sym (early-is bytes (Err BadVersion) y))
one_answer bytes a (Err BadSchema) x y = early-one a BadSchema (early-is bytes a x ∙ sym (early-is bytes (Err BadSchema) y))
one_answer bytes a (Err NoMemory) x y = absurd y
one_answer bytes (Ok m) (Ok n) x y =
    ap Ok (one_spelling m n (spellable-of m bytes x) (spellable-of n bytes y) (sym x.spelled ∙ y.spelled))
one_answer bytes (Ok m) (Err (BadCount at)) x y = absurd (spelled-no_stop m bytes (BadCount at) x y.1)
one_answer bytes (Ok m) (Err (Unknown at op)) x y = absurd (spelled-no_stop m bytes (Unknown at op) x y.1)
one_answer bytes (Err (BadCount at)) (Ok n) x y = absurd (spelled-no_stop n bytes (BadCount at) y x.1)
one_answer bytes (Err (Unknown at op)) (Ok n) x y = absurd (spelled-no_stop n bytes (Unknown at op) y x.1)
one_answer bytes (Err (BadCount at)) (Err (BadCount here)) x y = ap Err (late-one bytes (BadCount at) (BadCount here) x.1 y.1)
one_answer bytes (Err (BadCount at)) (Err (Unknown here op)) x y = ap Err (late-one bytes (BadCount at) (Unknown here op) x.1 y.1)
one_answer bytes (Err (Unknown at op)) (Err (BadCount here)) x y = ap Err (late-one bytes (Unknown at op) (BadCount here) x.1 y.1)
one_answer bytes (Err (Unknown at op)) (Err (Unknown here other)) x y =
    ap Err (late-one bytes (Unknown at op) (Unknown here other) x.1 y.1)

pub length-words_of : (bytes : List ℕ) → length (words_of bytes) ≡ length bytes / 4
length-words_of [] = refl
length-words_of (a ∷ []) = refl
length-words_of (a ∷ b ∷ []) = refl
length-words_of (a ∷ b ∷ c ∷ []) = refl
length-words_of (a ∷ b ∷ c ∷ d ∷ bytes) = omega (arith, length-words_of bytes)

four-fit : (a b c d : ℕ) → a < 256 → b < 256 → c < 256 → d < 256 →
    (i : ℕ) → get_or (a ∷ b ∷ c ∷ d ∷ []) i 0 < 256
four-fit a b c d p q r s zero = p
four-fit a b c d p q r s (suc zero) = q
four-fit a b c d p q r s (suc (suc zero)) = r
four-fit a b c d p q r s (suc (suc (suc zero))) = s
four-fit a b c d p q r s (suc (suc (suc (suc i)))) = lit< tt

-- the bytes of the words of bytes
word_bytes-words_of : (bytes : List ℕ) → ((i : ℕ) → Fits w8 (get_or bytes i 0)) → length bytes % 4 ≡ 0 →
    word_bytes (words_of bytes) ≡ bytes
word_bytes-words_of [] fits whole = refl
word_bytes-words_of (a ∷ []) fits whole = absurd (omega arith)
word_bytes-words_of (a ∷ b ∷ []) fits whole = absurd (omega arith)
word_bytes-words_of (a ∷ b ∷ c ∷ []) fits whole = absurd (omega arith)
word_bytes-words_of (a ∷ b ∷ c ∷ d ∷ bytes) fits whole =
    let four : List ℕ = a ∷ b ∷ c ∷ d ∷ [] in
    let first = le_bytes_4 four (word_of a b c d) refl
    (four-fit a b c d (omega (arith, fits 0)) (omega (arith, fits 1)) (omega (arith, fits 2)) (omega (arith, fits 3))) refl in
    let rest = word_bytes-words_of bytes (λ i. fits (suc (suc (suc (suc i))))) (omega arith) in
    ap₂ ◌++◌ first rest

-- words that are a module are its spelling
pub spelled : (m : Module) (bytes : List ℕ) → ((i : ℕ) → Fits w8 (get_or bytes i 0)) → length bytes % 4 ≡ 0 →
    AreModule (words_of bytes) m → IsSpellingOf m bytes
spelled m bytes fits whole h = record {
  spelled = sym (word_bytes-words_of bytes fits whole) ∙ ap word_bytes h.spelled;
  generator = h.generator;
  bound = h.bound;
  instructions = h.instructions;
}

header-have : (bytes : List ℕ) → length bytes % 4 ≡ 0 → HasHead (words_of bytes) → HasHeader bytes
header-have bytes whole h = record {
  words = are_words-true bytes (omega (arith, length-words_of bytes, h.enough)) whole;
  magic = h.magic;
  version = h.version;
  schema = h.schema;
}

stop-have : (bytes : List ℕ) (refusal : WordRefusal) → HasHead (words_of bytes) →
    StopsBehind (drop 5 (words_of bytes)) refusal → Stops (words_of bytes) refusal
stop-have bytes refusal h s =
    let whole : length (drop 5 (words_of bytes)) + 5 ≡ length (words_of bytes) =
    omega (arith, length-drop 5 (words_of bytes), h.enough) in
    let place : ℕ → Type 0 = λ n. BeginsNone (n - length s.rest) s.rest refusal in
    record {
      before = s.before;
      in_use = s.in_use;
      rest = s.rest;
      further = s.further;
      split = s.split;
      none = subst place whole s.none;
    }

-- why words are refused is why their bytes are
pub refused : (bytes : List ℕ) (refusal : WordRefusal) → length bytes % 4 ≡ 0 →
    RefusesWords (words_of bytes) refusal → Refuses bytes refusal
refused bytes NotWords whole h =
    let long = length-words_of bytes in grind (arith, nat_tests)
refused bytes BadMagic whole h =
    (are_words-true bytes (omega (arith, length-words_of bytes, h.0)) whole, h.1)
refused bytes BadVersion whole h =
    (are_words-true bytes (omega (arith, length-words_of bytes, h.0)) whole, h.1, h.2)
refused bytes BadSchema whole h =
    (are_words-true bytes (omega (arith, length-words_of bytes, h.0)) whole, h.1, h.2, h.3)
refused bytes (BadCount at) whole h =
    (header-have bytes whole h.0, stop-have bytes (BadCount at) h.0 h.1)
refused bytes (Unknown at op) whole h =
    (header-have bytes whole h.0, stop-have bytes (Unknown at op) h.0 h.1)
refused bytes NoMemory whole h = absurd h

pub refused_by : (bytes : List ℕ) (refusal : WordRefusal) → length bytes % 4 ≡ 0 →
    (refusal ≡ NoMemory) ⊎ RefusesWords (words_of bytes) refusal → IsRefusedBy bytes refusal
refused_by bytes refusal whole (inl h) = inl h
refused_by bytes refusal whole (inr h) = inr (refused bytes refusal whole h)

-- the bytes of a module are refused where memory runs out alone
pub complete : (m : Module) (bytes : List ℕ) (refusal : WordRefusal) →
    IsSpellingOf m bytes → IsRefusedBy bytes refusal → refusal ≡ NoMemory
complete m bytes refusal h (inl none) = none
complete m bytes refusal h (inr r) = let same = one_answer bytes (Ok m) (Err refusal) h r in cc

-- bytes that are no whole words are none
pub no_words : (bytes : List ℕ) → (length bytes % 4 ≡ 0 → ⊥) → are_words bytes ≡ false
no_words bytes odd = grind (arith, nat_tests)

-- what the words read as is what their bytes decode to
pub decodes-ok : (bytes words : List ℕ) (result : Result Words WordRefusal) → words ≡ words_of bytes →
    length bytes % 4 ≡ 0 → ReadsModule words result → ((i : ℕ) → Fits w8 (get_or bytes i 0)) →
    IfOk result (λ w. IsSpellingOf (module_of w) bytes)
decodes-ok bytes words (Ok w) same whole reads fits =
    spelled (module_of w) bytes fits whole (rw same at reads)
decodes-ok bytes words (Err refusal) same whole reads fits = tt

pub decodes-refused : (bytes words : List ℕ) (result : Result Words WordRefusal) → words ≡ words_of bytes →
    length bytes % 4 ≡ 0 → ReadsModule words result → IfErr result (λ refusal. IsRefusedBy bytes refusal)
decodes-refused bytes words (Ok w) same whole reads = tt
decodes-refused bytes words (Err refusal) same whole reads =
    let P : List ℕ → Type 0 = λ ws. (refusal ≡ NoMemory) ⊎ RefusesWords ws refusal in
    refused_by bytes refusal whole (subst P same reads)

pub decodes-complete : (bytes words : List ℕ) (result : Result Words WordRefusal) → words ≡ words_of bytes →
    length bytes % 4 ≡ 0 → ReadsModule words result →
    (m : Module) → IsSpellingOf m bytes → IfErr result (λ refusal. refusal ≡ NoMemory)
decodes-complete bytes words (Ok w) same whole reads m h = tt
decodes-complete bytes words (Err refusal) same whole reads m h =
    complete m bytes refusal h (decodes-refused bytes words (Err refusal) same whole reads)

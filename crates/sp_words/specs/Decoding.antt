-- What bytes decode to, and why other bytes decode to nothing.
use Rattle.std.specs.Prelude.{◌≡◌, ◌≢◌, ℕ, ◌+◌, ◌-◌, ◌/◌, ◌%◌, ◌^◌, ◌<◌, ◌==◌, ◌&&◌, ◌||◌, ◌⊎◌, nat_lt, nat_le, Bool, true, false, List, [], ◌∷◌, ◌++◌, length, drop, slice_index, Result, Ok, Err}
use Rattle.std.specs.List.{All, flat_map}
use Rattle.def_spirv.specs.Table.{is_known}
use Rattle.def_spirv.specs.Words.{Instruction, Module, instruction_words, magic, schema, spelling, version, word_of}
use Rattle.sp_words.specs.declared.decoding.WordRefusal.{WordRefusal}
use Rattle.sp_words.specs.declared.decoding.WordRefusal.TheVariants.{NotWords, BadMagic, BadVersion, BadSchema, BadCount, Unknown, NoMemory}

-- an instruction that words can spell: the first word has 16 bits each for the number of words and
-- the opcode, and each operand has a word of 32 bits (SPIR-V 1.5, 2.3)
pub record IsSpellable (i : Instruction) : Type 0 where
  pub opcode : i.opcode < 2 ^ 16
  pub count : length i.operands + 1 < 2 ^ 16
  pub operands : All (λ n. n < 2 ^ 32) i.operands

-- a module that words can spell
pub record IsSpellableModule (m : Module) : Type 0 where
  pub generator : m.generator < 2 ^ 32
  pub bound : m.bound < 2 ^ 32
  pub instructions : All IsSpellable m.instructions

-- no spelling of a module equals the spelling of another
abbrev pub OneSpelling : Type 0
OneSpelling =
    (m n : Module) → IsSpellableModule m → IsSpellableModule n → spelling m ≡ spelling n → m ≡ n

-- an instruction that words can spell and the table has
pub record IsInUse (i : Instruction) : Type 0 where
  pub known : is_known i.opcode ≡ true
  pub spellable : IsSpellable i

-- the bytes are the one spelling of a module of instructions of the table
pub record IsSpellingOf (m : Module) (bytes : List ℕ) : Type 0 where
  pub spelled : bytes ≡ spelling m
  pub generator : m.generator < 2 ^ 32
  pub bound : m.bound < 2 ^ 32
  pub instructions : All IsInUse m.instructions

-- the words of bytes, the lowest byte of each first
abbrev pub words_of : List ℕ → List ℕ
words_of (a ∷ b ∷ c ∷ d ∷ bytes) = word_of a b c d ∷ words_of bytes
words_of _ = []

-- whether bytes are whole words, and enough of them for a header
abbrev pub are_words : List ℕ → Bool
are_words bytes = nat_le 20 (length bytes) && (length bytes % 4 == 0)

-- the bytes are words, and their header is that of a module
pub record HasHeader (bytes : List ℕ) : Type 0 where
  pub words : are_words bytes ≡ true
  pub magic : slice_index (words_of bytes) 0 ≡ magic
  pub version : slice_index (words_of bytes) 1 ≡ version
  pub schema : slice_index (words_of bytes) 4 ≡ schema

-- whether the number of words that the first word has is none, or more than there are
abbrev pub is_bad_count : List ℕ → Bool
is_bad_count words =
    let count = slice_index words 0 / 2 ^ 16 in (count == 0) || nat_lt (length words) count

-- why words begin no instruction, where the first of them stands at this place
abbrev pub BeginsNone : ℕ → List ℕ → WordRefusal → Type 0
BeginsNone place words (BadCount at) = (at ≡ place) × (is_bad_count words ≡ true)
BeginsNone place words (Unknown at op) =
    (at ≡ place) × (is_bad_count words ≡ false) × (op ≡ slice_index words 0 % 2 ^ 16)
    × (is_known op ≡ false)
BeginsNone place words _ = ⊥

-- behind a header stand instructions of the table, and then words that begin none
pub record Stops (words : List ℕ) (refusal : WordRefusal) : Type 0 where
  pub before : List Instruction
  pub in_use : All IsInUse before
  pub rest : List ℕ
  pub further : 0 < length rest
  pub split : drop 5 words ≡ flat_map instruction_words before ++ rest
  pub none : BeginsNone (length words - length rest) rest refusal

-- why bytes are not decoded: the first of these that is the case
abbrev pub Refuses : List ℕ → WordRefusal → Type 0
Refuses bytes NotWords = are_words bytes ≡ false
Refuses bytes BadMagic = (are_words bytes ≡ true) × (slice_index (words_of bytes) 0 ≢ magic)
Refuses bytes BadVersion =
    (are_words bytes ≡ true) × (slice_index (words_of bytes) 0 ≡ magic)
    × (slice_index (words_of bytes) 1 ≢ version)
Refuses bytes BadSchema =
    (are_words bytes ≡ true) × (slice_index (words_of bytes) 0 ≡ magic)
    × (slice_index (words_of bytes) 1 ≡ version) × (slice_index (words_of bytes) 4 ≢ schema)
Refuses bytes (BadCount at) = HasHeader bytes × Stops (words_of bytes) (BadCount at)
Refuses bytes (Unknown at op) = HasHeader bytes × Stops (words_of bytes) (Unknown at op)
Refuses bytes NoMemory = ⊥

-- what bytes decode to
abbrev pub Decodes : List ℕ → Result Module WordRefusal → Type 0
Decodes bytes (Ok m) = IsSpellingOf m bytes
Decodes bytes (Err refusal) = Refuses bytes refusal

-- bytes decode to one module, or to one refusal
abbrev pub OneAnswer : Type 0
OneAnswer =
    (bytes : List ℕ) (a b : Result Module WordRefusal) → Decodes bytes a → Decodes bytes b → a ≡ b

-- memory ran out, or the bytes are not decoded for this reason
abbrev pub IsRefusedBy : List ℕ → WordRefusal → Type 0
IsRefusedBy bytes refusal = (refusal ≡ NoMemory) ⊎ Refuses bytes refusal

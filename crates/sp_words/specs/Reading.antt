-- What the parts of the decoder promise each other.
use Rattle.std.specs.Prelude.{◌≡◌, ◌≢◌, ℕ, ◌+◌, ◌-◌, ◌^◌, ◌<◌, ◌≤◌, ◌⊎◌, List, ◌++◌, length, drop, map, slice_index, Result, MatchResult}
use Rattle.std.specs.List.{All, flat_map}
use Rattle.def_spirv.specs.Words.{Instruction, Module, instruction_words, magic, module_words, schema, version}
use Rattle.sp_words.specs.Decoding.{BeginsNone, IsInUse}
use Rattle.sp_words.specs.View.{instruction_of, module_of}
use Rattle.sp_words.specs.declared.instruction.Inst.{Inst}
use Rattle.sp_words.specs.declared.instruction.Words.{Words}
use Rattle.sp_words.specs.declared.decoding.WordRefusal.{WordRefusal}
use Rattle.sp_words.specs.declared.decoding.WordRefusal.TheVariants.{NotWords, BadMagic, BadVersion, BadSchema, BadCount, Unknown, NoMemory}

-- the words begin with an instruction of the table
pub record Begins (words : List ℕ) (i : Instruction) : Type 0 where
  pub in_use : IsInUse i
  pub split : words ≡ instruction_words i ++ drop (length i.operands + 1) words

-- memory ran out, or the words begin no instruction for this reason
abbrev pub IsNoneOf : ℕ → List ℕ → WordRefusal → Type 0
IsNoneOf place words refusal = (refusal ≡ NoMemory) ⊎ BeginsNone place words refusal

-- the words are instructions of the table
pub record AreInstructions (words : List ℕ) (instructions : List Instruction) : Type 0 where
  pub in_use : All IsInUse instructions
  pub split : words ≡ flat_map instruction_words instructions

-- words behind a header are instructions of the table, and then words that begin none
pub record StopsBehind (words : List ℕ) (refusal : WordRefusal) : Type 0 where
  pub before : List Instruction
  pub in_use : All IsInUse before
  pub rest : List ℕ
  pub further : 0 < length rest
  pub split : words ≡ flat_map instruction_words before ++ rest
  pub none : BeginsNone (length words + 5 - length rest) rest refusal

-- the words behind a header as instructions, or why they are none
abbrev pub ReadsInstructions : List ℕ → Result (List Inst) WordRefusal → Type 0
ReadsInstructions words result =
    MatchResult result (λ insts. AreInstructions words (map instruction_of insts))
    (λ refusal. (refusal ≡ NoMemory) ⊎ StopsBehind words refusal)

-- the words are a header and instructions of the table
pub record AreModule (words : List ℕ) (m : Module) : Type 0 where
  pub spelled : words ≡ module_words m
  pub generator : m.generator < 2 ^ 32
  pub bound : m.bound < 2 ^ 32
  pub instructions : All IsInUse m.instructions

-- the words begin with the header of a module
pub record HasHead (words : List ℕ) : Type 0 where
  pub enough : 5 ≤ length words
  pub magic : slice_index words 0 ≡ magic
  pub version : slice_index words 1 ≡ version
  pub schema : slice_index words 4 ≡ schema

-- why words are no module
abbrev pub RefusesWords : List ℕ → WordRefusal → Type 0
RefusesWords words NotWords = length words < 5
RefusesWords words BadMagic = (5 ≤ length words) × (slice_index words 0 ≢ magic)
RefusesWords words BadVersion =
    (5 ≤ length words) × (slice_index words 0 ≡ magic) × (slice_index words 1 ≢ version)
RefusesWords words BadSchema =
    (5 ≤ length words) × (slice_index words 0 ≡ magic) × (slice_index words 1 ≡ version)
    × (slice_index words 4 ≢ schema)
RefusesWords words (BadCount at) = HasHead words × StopsBehind (drop 5 words) (BadCount at)
RefusesWords words (Unknown at op) = HasHead words × StopsBehind (drop 5 words) (Unknown at op)
RefusesWords words NoMemory = ⊥

-- the module that words are, or why they are none
abbrev pub ReadsModule : List ℕ → Result Words WordRefusal → Type 0
ReadsModule words result =
    MatchResult result (λ w. AreModule words (module_of w))
    (λ refusal. (refusal ≡ NoMemory) ⊎ RefusesWords words refusal)

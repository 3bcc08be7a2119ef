-- Modules of numbers: instructions, words and bytes (SPIR-V 1.5, 2.3, "Physical Layout of a SPIR-V
-- Module and Instruction").
use Rattle.std.specs.Prelude.{ℕ, ◌+◌, ◌*◌, ◌^◌, List, [], ◌∷◌, ◌++◌, length}
use Rattle.std.specs.List.{flat_map}
use Rattle.std.specs.Int.{w32, to_le_bytes, from_le_bytes}

-- an instruction: its opcode, and the words after its first
pub record Instruction : Type 0 where
  pub opcode : ℕ
  pub operands : List ℕ

-- a module: what the header leaves open, and the instructions in order
pub record Module : Type 0 where
  pub generator : ℕ
  pub bound : ℕ
  pub instructions : List Instruction

-- the first word of every module
abbrev pub magic : ℕ
magic = 0x07230203

-- SPIR-V 1.5
abbrev pub version : ℕ
version = 0x00010500

-- the reserved word of the header
abbrev pub schema : ℕ
schema = 0

-- the first word has the number of words above the opcode, of 16 bits each
abbrev pub instruction_words : Instruction → List ℕ
instruction_words i = (2 ^ 16 * (length i.operands + 1) + i.opcode) ∷ i.operands

-- five words of header, then the instructions
abbrev pub module_words : Module → List ℕ
module_words m =
    (magic ∷ version ∷ m.generator ∷ m.bound ∷ schema ∷ [])
    ++ flat_map instruction_words m.instructions

-- the bytes of words, the lowest byte of each first
abbrev pub word_bytes : List ℕ → List ℕ
word_bytes words = flat_map (to_le_bytes w32) words

-- the one spelling of a module
abbrev pub spelling : Module → List ℕ
spelling m = word_bytes (module_words m)

-- the word of four bytes
abbrev pub word_of : ℕ → ℕ → ℕ → ℕ → ℕ
word_of a b c d = from_le_bytes w32 (a ∷ b ∷ c ∷ d ∷ [])

-- the words of a text: its bytes, a zero byte and zero padding, the first byte lowest
-- (SPIR-V 1.5, 2.2.1, "Instructions")
abbrev pub text_words : List ℕ → List ℕ
text_words [] = word_of 0 0 0 0 ∷ []
text_words (a ∷ []) = word_of a 0 0 0 ∷ []
text_words (a ∷ b ∷ []) = word_of a b 0 0 ∷ []
text_words (a ∷ b ∷ c ∷ []) = word_of a b c 0 ∷ []
text_words (a ∷ b ∷ c ∷ d ∷ rest) = word_of a b c d ∷ text_words rest

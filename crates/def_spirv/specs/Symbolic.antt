-- Instructions whose ids are symbols, and the numbers that the ids get.
use Rattle.std.specs.Prelude.{ℕ, ◌+◌, Bool, not, List, [], ◌∷◌, ◌++◌, length, map, filter, position, Some, None, Option}
use Rattle.std.specs.List.{flat_map}
use Rattle.def_spirv.specs.Words.{Instruction, Module, text_words}

-- what stands after an opcode: an id, a number, or a text
pub data Operand (I : Type 0) : Type 0 where
  Id : I → Operand I
  Number : ℕ → Operand I
  Text : List ℕ → Operand I

-- an instruction over the symbols I
pub record Line (I : Type 0) : Type 0 where
  pub opcode : ℕ
  pub operands : List (Operand I)

-- the id that an operand mentions, if it is one
abbrev pub operand_ids : {I : Type 0} → Operand I → List I
operand_ids (Id i) = i ∷ []
operand_ids (Number n) = []
operand_ids (Text bytes) = []

-- the ids that lines mention, in the order of their words
abbrev pub mentions : {I : Type 0} → List (Line I) → List I
mentions lines = flat_map (λ line. flat_map operand_ids line.operands) lines

-- the elements of a list, each at its first place
abbrev pub firsts : {X : Type 0} → (X → X → Bool) → List X → List X
firsts same [] = []
firsts same (x ∷ xs) = x ∷ filter (λ y. not (same x y)) (firsts same xs)

-- the number of an id: its place among the ids, counted from 1
abbrev pub number_at : Option ℕ → ℕ
number_at (Some k) = k + 1
number_at None = 0

-- the number of an id among the ids in order
abbrev pub number_of : {I : Type 0} → (I → I → Bool) → List I → I → ℕ
number_of same ids i = number_at (position (same i) ids)

-- the words of an operand
abbrev pub operand_words : {I : Type 0} → (I → ℕ) → Operand I → List ℕ
operand_words number (Id i) = number i ∷ []
operand_words number (Number n) = n ∷ []
operand_words number (Text bytes) = text_words bytes

-- an instruction with numbers for its ids
abbrev pub numbered_line : {I : Type 0} → (I → ℕ) → Line I → Instruction
numbered_line number line =
    record { opcode = line.opcode; operands = flat_map (operand_words number) line.operands }

-- ids are numbered in the order in which the words first mention them; the bound is one more than
-- the last
abbrev pub numbered : {I : Type 0} → (I → I → Bool) → List (Line I) → Module
numbered same lines =
    let ids = firsts same (mentions lines) in
    record {
      generator = 0;
      bound = length ids + 1;
      instructions = map (numbered_line (number_of same ids)) lines;
    }

-- the instructions of a module by section (SPIR-V 1.5, 2.4, "Logical Layout of a Module")
pub record Sections (I : Type 0) : Type 0 where
  pub capabilities : List (Line I)
  pub memory_model : List (Line I)
  pub entry_points : List (Line I)
  pub execution_modes : List (Line I)
  pub names : List (Line I)
  pub decorations : List (Line I)
  pub globals : List (Line I)
  pub functions : List (Line I)

-- all instructions in the order of the sections
abbrev pub section_lines : {I : Type 0} → Sections I → List (Line I)
section_lines s =
    s.capabilities ++ s.memory_model ++ s.entry_points ++ s.execution_modes ++ s.names
    ++ s.decorations ++ s.globals ++ s.functions

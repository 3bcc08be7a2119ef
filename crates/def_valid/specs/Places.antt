-- The instructions of a module by their places, and what its ids stand for
-- (SPIR-V 1.5, 2.2, "Terms", and 2.4, "Logical Layout of a Module").
use Rattle.std.specs.Prelude.{ℕ, zero, suc, ◌+◌, ◌==◌, nat_lt, Bool, List, [], length, map, drop, slice_index, slice_index_or, if◌then◌else◌}
use Rattle.std.specs.List.{position_or_len}
use Rattle.std.specs.Option.{unwrap_or}
use Rattle.def_spirv.specs.Opcodes as op
use Rattle.def_spirv.specs.Operands.{result_of}
use Rattle.def_spirv.specs.Words.{Instruction, Module}

-- what stands past the last instruction
abbrev pub no_instruction : Instruction
no_instruction = record { opcode = 0; operands = [] }

-- how many instructions a module has
unfoldable pub size : Module → ℕ
size m = length m.instructions

-- the instruction at a place, counted from 0
unfoldable pub instruction_at : Module → ℕ → Instruction
instruction_at m k = slice_index_or m.instructions k no_instruction

-- its opcode
unfoldable pub opcode_at : Module → ℕ → ℕ
opcode_at m k = (instruction_at m k).opcode

-- the word at a place among its operands, 0 past the last
unfoldable pub operand_at : Module → ℕ → ℕ → ℕ
operand_at m k j = slice_index (instruction_at m k).operands j

-- its operands from one on
unfoldable pub operands_from : Module → ℕ → ℕ → List ℕ
operands_from m k j = drop j (instruction_at m k).operands

-- how many words its operands have
unfoldable pub operand_count : Module → ℕ → ℕ
operand_count m k = length (instruction_at m k).operands

-- the id that an instruction defines, or 0, which is no id
abbrev pub result_or_none : Instruction → ℕ
result_or_none i = unwrap_or (result_of i) 0

-- the same of the instruction at a place
unfoldable pub result_at : Module → ℕ → ℕ
result_at m k = result_or_none (instruction_at m k)

-- where an id is defined first, or the size where it is not
unfoldable pub place_of : Module → ℕ → ℕ
place_of m id = position_or_len (λ result. result == id) (map result_or_none m.instructions)

-- the opcode of what defines an id
abbrev pub opcode_of : Module → ℕ → ℕ
opcode_of m id = opcode_at m (place_of m id)

-- an operand of what defines an id
abbrev pub operand_of : Module → ℕ → ℕ → ℕ
operand_of m id j = operand_at m (place_of m id) j

-- where an opcode stands first, or the size where it does not
unfoldable pub first_of : Module → ℕ → ℕ
first_of m opcode = position_or_len (λ i. i.opcode == opcode) m.instructions

-- one more than the place at which an opcode stands last before a place, or 0 where it does not
unfoldable pub last_before : ℕ → Module → ℕ → ℕ
last_before opcode m zero = 0
last_before opcode m (suc k) =
    if opcode_at m k == opcode then suc k else last_before opcode m k

-- the function in which a place stands, told by its OpFunction
abbrev pub function_at : Module → ℕ → ℕ
function_at m k = last_before op.function m (k + 1)

-- the block in which a place stands, told by its label
abbrev pub block_at : Module → ℕ → ℕ
block_at m k = last_before op.label m (k + 1)

-- whether a place stands in a function: behind an OpFunction that no OpFunctionEnd has closed
abbrev pub is_inside : Module → ℕ → Bool
is_inside m k = nat_lt (last_before op.function_end m k) (last_before op.function m k)

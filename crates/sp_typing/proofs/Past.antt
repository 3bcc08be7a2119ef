-- What stands past the last instruction of a module.
use Rattle.std.proofs.Common.{◌≡◌, ℕ, ◌≤◌, ap}
use Rattle.std.proofs.lemmas.List.{get_or_past}
use Rattle.def_spirv.specs.Words.{Instruction, Module}
use Rattle.def_valid.specs.Places.{instruction_at, no_instruction, opcode_at, size}

-- there is no opcode
pub opcode_past : (m : Module) (k : ℕ) → size m ≤ k → opcode_at m k ≡ 0
unfolding opcode_at instruction_at size
opcode_past m k h = ap (λ (i : Instruction). i.opcode) (get_or_past m.instructions k no_instruction h)

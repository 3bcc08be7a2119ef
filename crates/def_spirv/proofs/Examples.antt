-- The table, computed on examples: each opcode has one entry, strings end where they have to, and
-- each word has the role that the standard gives it.
use Rattle.std.proofs.Common.{◌≡◌, Bool, true, false, not, ◌&&◌, ◌==◌, List, [], ◌∷◌, map, length, refl, Some, None, ℕ}
use Rattle.std.specs.List.{list_any}
use Rattle.def_spirv.specs.Words.{Instruction}
use Rattle.def_spirv.specs.Table.{Entry, table, is_known, Enumerant, ExecutionModel, Reference}
use Rattle.def_spirv.specs.Operands.{Word, Text, operands_of, result_of, result_type_of, references_of, uses_of}

-- whether no number stands twice
all_differ : List ℕ → Bool
all_differ [] = true
all_differ (x ∷ xs) = not (list_any (λ y. x == y) xs) && all_differ xs

each_opcode_has_one_entry : all_differ (map (λ (e : Entry). e.opcode) table) ≡ true
unfolding all_differ table
each_opcode_has_one_entry = refl

entries : length table ≡ 69
unfolding table
entries = refl

-- `OpNop` and `OpPhi` are not in use
others : (is_known 0 ≡ false) × (is_known 245 ≡ false)
unfolding table
others = (refl, refl)

-- `OpEntryPoint GLCompute %1 "main" %2 %3`
entry_point :
    operands_of (record { opcode = 15; operands = 5 ∷ 1 ∷ 0x6e69616d ∷ 0 ∷ 2 ∷ 3 ∷ [] })
    ≡ Some (Word (Enumerant ExecutionModel) 5 ∷ Word Reference 1 ∷ Text (109 ∷ 97 ∷ 105 ∷ 110 ∷ []) ∷ Word Reference 2 ∷ Word Reference 3 ∷ [])
unfolding table
entry_point = refl

-- a string that does not end, and one with a byte behind its end
strings_without_end :
    (operands_of (record { opcode = 5; operands = 1 ∷ 0x6e69616d ∷ [] }) ≡ None)
    × (operands_of (record { opcode = 5; operands = 1 ∷ 0x61006261 ∷ [] }) ≡ None)
unfolding table
strings_without_end = (refl, refl)

-- `%23 = OpArrayLength %6 %3 0`
array_length : Instruction
array_length = record { opcode = 68; operands = 6 ∷ 23 ∷ 3 ∷ 0 ∷ [] }

roles :
    (result_of array_length ≡ Some 23) × (result_type_of array_length ≡ Some 6)
    × (references_of array_length ≡ 3 ∷ []) × (uses_of array_length ≡ 6 ∷ 3 ∷ [])
unfolding array_length table
roles = (refl, refl, refl, refl)

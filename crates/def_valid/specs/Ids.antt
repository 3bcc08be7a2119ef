-- Rules on ids: that they are defined once, before they are used, and that a type has one id
-- (SPIR-V 1.5, 2.16.1, "Universal Validation Rules", and 2.8, "Types and Variables").
use Rattle.std.specs.Prelude.{ℕ, zero, suc, ◌-◌, ◌==◌, nat_eq, nat_lt, nat_le, Bool, false, not, ◌&&◌, ◌||◌, List, length, if◌then◌else◌}
use Rattle.std.specs.List.{list_all}
use Rattle.std.specs.Option.{unwrap_or}
use Rattle.def_spirv.specs.Opcodes as op
use Rattle.def_spirv.specs.Operands.{is_result, result_type_of, uses_of, words_of}
use Rattle.def_spirv.specs.Words.{Module}
use Rattle.def_valid.specs.Places.{size, instruction_at, opcode_at, operand_at, result_at, place_of, opcode_of, last_before, is_inside, function_at, block_at, operands_from}
use Rattle.def_valid.specs.Sections.{is_type, section_at}
use lib.Pointwise.{pointwise}

-- the ids that the instruction at a place uses
unfoldable pub uses_at : Module → ℕ → List ℕ
uses_at m k = uses_of (instruction_at m k)

-- whether the instruction at a place defines an id
unfoldable pub has_result : Module → ℕ → Bool
has_result m k = nat_lt 0 (length (words_of is_result (instruction_at m k)))

-- the type of what it defines, or 0 where it has none
unfoldable pub result_type_at : Module → ℕ → ℕ
result_type_at m k = unwrap_or (result_type_of (instruction_at m k)) 0

-- whether an id is in range and defined
unfoldable pub is_defined : Module → ℕ → Bool
is_defined m id = nat_lt 0 id && nat_lt id m.bound && nat_lt (place_of m id) (size m)

-- whether the instruction at a place defines no id, or one that is in range and not defined before
unfoldable pub defines_once : Module → ℕ → Bool
defines_once m k =
    let id = result_at m k in
    not (has_result m k)
    || (nat_lt 0 id && nat_lt id m.bound && place_of m id == k)

-- Rule 3: ids are from 1 and below the bound, each is defined once, and what is used is defined.
unfoldable pub ids_defined : Module → ℕ → Bool
ids_defined m k = defines_once m k && list_all (is_defined m) (uses_at m k)

-- whether a place stands in the first block of its function: a label is behind the function's
-- begin, and none between them
unfoldable pub in_first_block : Module → ℕ → Bool
in_first_block m k =
    nat_lt (function_at m k) (block_at m k)
    && nat_le (last_before op.label m (block_at m k - 1)) (function_at m k)

-- Whether what stands at one place in a function may be used at another: a variable everywhere
-- behind, a parameter too where it is a pointer, and else in the first block, all other results in
-- their own block.
unfoldable pub reaches_inside : Module → ℕ → ℕ → Bool
reaches_inside m d k =
    let opcode = opcode_at m d in
    function_at m d == function_at m k && nat_lt d k
    && (opcode == op.variable
    || (if opcode == op.function_parameter
    then opcode_of m (operand_at m d 0) == op.type_pointer || in_first_block m k
    else block_at m d == block_at m k))

-- whether an id may be used at a place: functions and labels everywhere, what is defined outside of
-- functions everywhere behind
unfoldable pub reaches : Module → ℕ → ℕ → Bool
reaches m k id =
    let d = place_of m id in
    opcode_at m d == op.function || opcode_at m d == op.label
    || (if is_inside m d then reaches_inside m d k else nat_lt d k)

-- Rule 4: in the types section and in functions an id is used where its definition reaches.
unfoldable pub defined_before : Module → ℕ → Bool
defined_before m k = nat_le (section_at m k) 5 || list_all (reaches m k) (uses_at m k)

-- types that are told apart by what they are: all but runtime arrays and structs
unfoldable pub is_nonaggregate : ℕ → Bool
is_nonaggregate opcode =
    is_type opcode && not (opcode == op.type_runtime_array) && not (opcode == op.type_struct)

-- whether two places declare one type: all but their results are the same
unfoldable pub same_type : Module → ℕ → ℕ → Bool
same_type m j k =
    opcode_at m j == opcode_at m k && pointwise nat_eq (operands_from m j 1) (operands_from m k 1)

-- whether a type of a place is declared before another place
unfoldable pub declared_before : Module → ℕ → ℕ → Bool
declared_before m k zero = false
declared_before m k (suc j) = declared_before m k j || same_type m k j

-- Rule 9: no two ids name the same non-aggregate type.
unfoldable pub types_differ : Module → ℕ → Bool
types_differ m k = not (is_nonaggregate (opcode_at m k)) || not (declared_before m k k)

-- Rules on sections and on what a module declares of itself
-- (SPIR-V 1.5, 2.4, "Logical Layout of a Module", and 2.16, "Validation Rules").
use Rattle.std.specs.Prelude.{ℕ, ◌+◌, ◌-◌, ◌==◌, nat_lt, nat_le, Bool, not, ◌&&◌, ◌||◌, if◌then◌else◌}
use Rattle.std.specs.Option.{is_some}
use Rattle.def_spirv.specs.Enumerants as enumerant
use Rattle.def_spirv.specs.Opcodes as op
use Rattle.def_spirv.specs.Operands.{operands_of}
use Rattle.def_spirv.specs.Table.{is_known}
use Rattle.def_spirv.specs.Words.{Module}
use Rattle.def_valid.specs.Places.{size, instruction_at, opcode_at, operand_at, operand_count, place_of, opcode_of, operand_of, first_of, last_before, is_inside}

-- OpTypeVoid to OpTypeInt, OpTypeVector, OpTypeRuntimeArray, OpTypeStruct, OpTypePointer,
-- OpTypeFunction
unfoldable pub is_type : ℕ → Bool
is_type opcode =
    opcode == op.type_void || opcode == op.type_bool || opcode == op.type_int
    || opcode == op.type_vector || opcode == op.type_runtime_array || opcode == op.type_struct
    || opcode == op.type_pointer || opcode == op.type_function

-- OpConstantTrue, OpConstantFalse, OpConstant, OpConstantNull
unfoldable pub is_constant : ℕ → Bool
is_constant opcode =
    opcode == op.constant_true || opcode == op.constant_false || opcode == op.constant
    || opcode == op.constant_null

-- the section of a function
abbrev pub function_section : ℕ
function_section = 7

-- the section of what stands in functions alone
abbrev pub inner_section : ℕ
inner_section = 8

-- the section of an opcode that no module has
abbrev pub no_section : ℕ
no_section = 9

-- the sections of annotations, of types, constants and global variables, and of functions
unfoldable pub late_section : ℕ → ℕ
late_section opcode =
    if opcode == op.decorate || opcode == op.member_decorate then 5
    else if is_type opcode || is_constant opcode || opcode == op.variable then 6
    else if opcode == op.function then function_section
    else if is_known opcode then inner_section
    else no_section

-- The section in which an opcode stands, by its place in a module's layout. OpVariable stands among
-- the types and in functions.
unfoldable pub section_of : ℕ → ℕ
section_of opcode =
    if opcode == op.capability then 0
    else if opcode == op.memory_model then 1
    else if opcode == op.entry_point then 2
    else if opcode == op.execution_mode then 3
    else if opcode == op.name then 4
    else late_section opcode

-- the section of what stands at a place
unfoldable pub section_at : Module → ℕ → ℕ
section_at m k = if is_inside m k then function_section else section_of (opcode_at m k)

-- whether a function has begun right before a place, but for parameters
unfoldable pub begins_before : Module → ℕ → Bool
begins_before m k =
    let before = opcode_at m (k - 1) in
    before == op.function || before == op.function_parameter

-- what stands in a function: parameters first, and an end only behind a block
unfoldable pub fits_function : Module → ℕ → Bool
fits_function m k =
    let opcode = opcode_at m k in
    (section_of opcode == inner_section || opcode == op.variable)
    && (not (opcode == op.function_parameter) || begins_before m k)
    && (not (opcode == op.function_end)
    || nat_lt (last_before op.function m k) (last_before op.label m k))

-- what stands outside of functions: sections in their order
unfoldable pub fits_section : Module → ℕ → Bool
fits_section m k =
    let section = section_of (opcode_at m k) in
    nat_le section function_section && (k == 0 || nat_le (section_at m (k - 1)) section)

-- Rule 1: sections stand in order, and functions are whole.
unfoldable pub sections_stand : Module → ℕ → Bool
sections_stand m k =
    if k == size m then not (is_inside m k)
    else if is_inside m k then fits_function m k
    else fits_section m k

-- a number among those that an operand may be
unfoldable pub is_storage_class : ℕ → Bool
is_storage_class number =
    number == enumerant.input || number == enumerant.function || number == enumerant.storage_buffer

-- the widths of integers in bits
unfoldable pub is_width : ℕ → Bool
is_width bits = bits == 32

-- OpCapability: Shader
unfoldable pub capability_numbers : Module → ℕ → Bool
capability_numbers m k =
    not (opcode_at m k == op.capability) || operand_at m k 0 == enumerant.shader

-- OpMemoryModel: Logical, GLSL450
unfoldable pub model_numbers : Module → ℕ → Bool
model_numbers m k =
    not (opcode_at m k == op.memory_model)
    || (operand_at m k 0 == enumerant.logical && operand_at m k 1 == enumerant.glsl450)

-- OpEntryPoint: GLCompute
unfoldable pub entry_numbers : Module → ℕ → Bool
entry_numbers m k =
    not (opcode_at m k == op.entry_point) || operand_at m k 0 == enumerant.gl_compute

-- OpExecutionMode: LocalSize with three numbers
unfoldable pub mode_numbers : Module → ℕ → Bool
mode_numbers m k =
    not (opcode_at m k == op.execution_mode)
    || (operand_at m k 1 == enumerant.local_size && operand_count m k == 5)

-- decorations without a number
unfoldable pub is_bare_decoration : ℕ → Bool
is_bare_decoration decoration =
    decoration == enumerant.block || decoration == enumerant.non_writable

-- decorations with a number, and the one built-in variable
unfoldable pub is_numbered_decoration : ℕ → ℕ → Bool
is_numbered_decoration decoration number =
    decoration == enumerant.array_stride || decoration == enumerant.binding
    || decoration == enumerant.descriptor_set
    || (decoration == enumerant.built_in && number == enumerant.global_invocation_id)

-- the decorations that are in use, with their numbers
unfoldable pub decoration_numbers : Module → ℕ → Bool
decoration_numbers m k =
    let decoration = operand_at m k 1 in
    let count = operand_count m k in
    not (opcode_at m k == op.decorate)
    || (count == 2 && is_bare_decoration decoration)
    || (count == 3 && is_numbered_decoration decoration (operand_at m k 2))

-- OpMemberDecorate: Offset with a number
unfoldable pub member_numbers : Module → ℕ → Bool
member_numbers m k =
    not (opcode_at m k == op.member_decorate)
    || (operand_at m k 2 == enumerant.offset && operand_count m k == 4)

-- OpTypeInt: a width that is in use, and signed or not
unfoldable pub integer_numbers : Module → ℕ → Bool
integer_numbers m k =
    not (opcode_at m k == op.type_int)
    || (is_width (operand_at m k 1) && nat_le (operand_at m k 2) 1)

-- OpTypeVector: three components
unfoldable pub vector_numbers : Module → ℕ → Bool
vector_numbers m k = not (opcode_at m k == op.type_vector) || operand_at m k 2 == 3

-- OpTypePointer, OpVariable: a storage class that is in use
unfoldable pub class_numbers : Module → ℕ → Bool
class_numbers m k =
    let opcode = opcode_at m k in
    (not (opcode == op.type_pointer) || is_storage_class (operand_at m k 1))
    && (not (opcode == op.variable) || is_storage_class (operand_at m k 2))

-- a constant has one word or two
unfoldable pub constant_numbers : Module → ℕ → Bool
constant_numbers m k = not (opcode_at m k == op.constant) || nat_le (operand_count m k) 4

-- no control is asked for
unfoldable pub control_numbers : Module → ℕ → Bool
control_numbers m k =
    let opcode = opcode_at m k in
    (not (opcode == op.function || opcode == op.loop_merge) || operand_at m k 2 == enumerant.none)
    && (not (opcode == op.selection_merge) || operand_at m k 1 == enumerant.none)

-- the numbers of modes and annotations
unfoldable pub header_numbers : Module → ℕ → Bool
header_numbers m k =
    capability_numbers m k && model_numbers m k && entry_numbers m k && mode_numbers m k
    && decoration_numbers m k && member_numbers m k

-- the numbers of types, constants, variables and controls
unfoldable pub declaration_numbers : Module → ℕ → Bool
declaration_numbers m k =
    integer_numbers m k && vector_numbers m k && class_numbers m k && constant_numbers m k
    && control_numbers m k

-- the numbers that are in use
unfoldable pub numbers_fit : Module → ℕ → Bool
numbers_fit m k = header_numbers m k && declaration_numbers m k

-- whether an instruction has the operands that its opcode takes; there is none past the last
unfoldable pub has_operands : Module → ℕ → Bool
has_operands m k = nat_le (size m) k || is_some (operands_of (instruction_at m k))

-- Rule 2: an instruction has the operands that its opcode takes, with numbers that are in use.
abbrev pub operands_fit : Module → ℕ → Bool
operands_fit m k = has_operands m k && numbers_fit m k

-- Rule 5: Shader is declared.
unfoldable pub shader_declared : Module → ℕ → Bool
shader_declared m k = nat_lt k (size m) || nat_lt (first_of m op.capability) (size m)

-- an opcode stands once in a module: there is none before it, and one at all
unfoldable pub stands_once : ℕ → Module → ℕ → Bool
stands_once opcode m k =
    if nat_lt k (size m) then not (opcode_at m k == opcode) || first_of m opcode == k
    else nat_lt (first_of m opcode) (size m)

-- Rule 6: there is one memory model, which by rule 2 is Logical GLSL450.
abbrev pub memory_model_once : Module → ℕ → Bool
memory_model_once = stands_once op.memory_model

-- the function of the entry point
unfoldable pub entry_function : Module → ℕ
entry_function m = operand_at m (first_of m op.entry_point) 1

-- a function without parameters and result
unfoldable pub is_plain_function : Module → ℕ → Bool
is_plain_function m f =
    opcode_of m f == op.function
    && opcode_of m (operand_of m f 0) == op.type_void
    && not (opcode_at m (place_of m f + 1) == op.function_parameter)

-- the mode LocalSize of the entry point, with three numbers from 1
unfoldable pub is_local_size : Module → ℕ → Bool
is_local_size m k =
    operand_at m k 0 == entry_function m
    && nat_lt 0 (operand_at m k 2) && nat_lt 0 (operand_at m k 3) && nat_lt 0 (operand_at m k 4)

-- an entry point is such a function
unfoldable pub entry_fits : Module → ℕ → Bool
entry_fits m k =
    not (opcode_at m k == op.entry_point) || is_plain_function m (operand_at m k 1)

unfoldable pub mode_fits : Module → ℕ → Bool
mode_fits m k = not (opcode_at m k == op.execution_mode) || is_local_size m k

-- Rule 7: there is one entry point, a function without parameters and result, with one LocalSize.
unfoldable pub entry_point_once : Module → ℕ → Bool
entry_point_once m k =
    stands_once op.entry_point m k && stands_once op.execution_mode m k && entry_fits m k
    && mode_fits m k

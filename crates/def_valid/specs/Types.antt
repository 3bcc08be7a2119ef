-- Rules on the types of operands and results
-- (SPIR-V 1.5, 2.16.1, "Universal Validation Rules", and the sections of 3, "Instructions").
use Rattle.std.specs.Prelude.{ℕ, suc, ◌+◌, ◌-◌, ◌*◌, ◌/◌, ◌^◌, ◌==◌, nat_eq, nat_lt, nat_le, Bool, false, not, ◌&&◌, ◌||◌, List, [], ◌∷◌, length, map, take, drop, if◌then◌else◌}
use Rattle.std.specs.List.{list_all}
use Rattle.def_spirv.specs.Enumerants as enumerant
use Rattle.def_spirv.specs.Opcodes as op
use Rattle.def_spirv.specs.Words.{Module}
use Rattle.def_valid.specs.Places.{opcode_at, operand_at, operand_count, operands_from, place_of, opcode_of, operand_of, function_at, is_inside}
use Rattle.def_valid.specs.Ids.{result_type_at}
use Rattle.def_valid.specs.Sections.{entry_function, is_type}
use lib.Pointwise.{pointwise}

-- the type of a value, or 0 where an id is no value; the type of an OpFunction is that of what
-- it returns
unfoldable pub type_of : Module → ℕ → ℕ
type_of m id =
    if opcode_of m id == op.function then 0
    else result_type_at m (place_of m id)

-- a boolean type (2.2.2, "Types")
abbrev pub is_boolean_type : Module → ℕ → Bool
is_boolean_type m t = opcode_of m t == op.type_bool

-- an integer type
abbrev pub is_integer_type : Module → ℕ → Bool
is_integer_type m t = opcode_of m t == op.type_int

-- a pointer type
abbrev pub is_pointer_type : Module → ℕ → Bool
is_pointer_type m t = opcode_of m t == op.type_pointer

-- the width of an integer type in bits
abbrev pub width_of : Module → ℕ → ℕ
width_of m t = operand_of m t 1

-- whether an integer type is unsigned
unfoldable pub is_unsigned_type : Module → ℕ → Bool
is_unsigned_type m t = is_integer_type m t && operand_of m t 2 == 0

-- how many members a struct type has
unfoldable pub member_count : Module → ℕ → ℕ
member_count m t = operand_count m (place_of m t) - 1

-- whether a struct type ends with a runtime array
unfoldable pub ends_with_array : Module → ℕ → Bool
ends_with_array m t = opcode_of m (operand_of m t (member_count m t)) == op.type_runtime_array

-- types of values that are stored and loaded as wholes: booleans, integers, the vector, and
-- structs of these
unfoldable pub is_value_type : Module → ℕ → Bool
is_value_type m t =
    is_boolean_type m t || is_integer_type m t || opcode_of m t == op.type_vector
    || (opcode_of m t == op.type_struct && not (ends_with_array m t))

-- the storage class of a pointer type
abbrev pub class_of : Module → ℕ → ℕ
class_of m t = operand_of m t 1

-- the type to which a pointer type points
abbrev pub pointee_of : Module → ℕ → ℕ
pointee_of m t = operand_of m t 2

-- whether an id is a boolean
unfoldable pub is_boolean : Module → ℕ → Bool
is_boolean m id = is_boolean_type m (type_of m id)

-- whether an id is an integer of a type's width
unfoldable pub is_integer_like : Module → ℕ → ℕ → Bool
is_integer_like m t id =
    is_integer_type m (type_of m id) && width_of m (type_of m id) == width_of m t

-- whether an id is a value
unfoldable pub is_value : Module → ℕ → Bool
is_value m id = nat_lt 0 (type_of m id)

-- whether an id is a label
abbrev pub is_label : Module → ℕ → Bool
is_label m id = opcode_of m id == op.label

-- OpBitcast, OpSNegate, OpNot: an integer from one of the same width
unfoldable pub is_unary : ℕ → Bool
is_unary opcode = opcode == op.bitcast || opcode == op.signed_negate || opcode == op.bitwise_not

-- OpIAdd, OpISub, OpIMul, OpSDiv, OpSRem, and OpShiftRightLogical to OpBitwiseAnd: from two of
-- the same width
unfoldable pub is_binary : ℕ → Bool
is_binary opcode =
    opcode == op.integer_add || opcode == op.integer_subtract || opcode == op.integer_multiply
    || opcode == op.signed_divide || opcode == op.signed_remainder
    || (nat_le op.shift_right_logical opcode && nat_le opcode op.bitwise_and)

-- an integer operation on one operand
unfoldable pub unary_typed : Module → ℕ → Bool
unary_typed m k =
    let t = operand_at m k 0 in
    not (is_unary (opcode_at m k))
    || (is_integer_type m t && is_integer_like m t (operand_at m k 2))

-- an integer operation on two operands
unfoldable pub binary_typed : Module → ℕ → Bool
binary_typed m k =
    let t = operand_at m k 0 in
    not (is_binary (opcode_at m k))
    || (is_integer_type m t && is_integer_like m t (operand_at m k 2)
    && is_integer_like m t (operand_at m k 3))

-- OpUDiv, OpUMod: unsigned, of the result's type
unfoldable pub unsigned_typed : Module → ℕ → Bool
unsigned_typed m k =
    let opcode = opcode_at m k in
    let t = operand_at m k 0 in
    not (opcode == op.unsigned_divide || opcode == op.unsigned_modulo)
    || (is_unsigned_type m t && type_of m (operand_at m k 2) == t
    && type_of m (operand_at m k 3) == t)

-- "Conversion Instructions", "Arithmetic Instructions", "Bit Instructions"
unfoldable pub integers_typed : Module → ℕ → Bool
integers_typed m k = unary_typed m k && binary_typed m k && unsigned_typed m k

-- OpIEqual to OpSLessThanEqual: a boolean from two integers of one width
unfoldable pub comparisons_typed : Module → ℕ → Bool
comparisons_typed m k =
    let opcode = opcode_at m k in
    let left = type_of m (operand_at m k 2) in
    not (nat_le op.integer_equal opcode && nat_le opcode op.signed_less_than_equal)
    || (is_boolean_type m (operand_at m k 0) && is_integer_type m left
    && is_integer_like m left (operand_at m k 3))

-- OpLogicalEqual to OpLogicalAnd
unfoldable pub logical_typed : Module → ℕ → Bool
logical_typed m k =
    let opcode = opcode_at m k in
    not (nat_le op.logical_equal opcode && nat_le opcode op.logical_and)
    || (is_boolean_type m (operand_at m k 0) && is_boolean m (operand_at m k 2)
    && is_boolean m (operand_at m k 3))

-- OpLogicalNot
unfoldable pub not_typed : Module → ℕ → Bool
not_typed m k =
    not (opcode_at m k == op.logical_not)
    || (is_boolean_type m (operand_at m k 0) && is_boolean m (operand_at m k 2))

-- OpSelect: a boolean chooses one of two values of the result's type
unfoldable pub select_typed : Module → ℕ → Bool
select_typed m k =
    let t = operand_at m k 0 in
    not (opcode_at m k == op.select)
    || (is_value_type m t && is_boolean m (operand_at m k 2)
    && type_of m (operand_at m k 3) == t && type_of m (operand_at m k 4) == t)

-- "Relational and Logical Instructions"
unfoldable pub booleans_typed : Module → ℕ → Bool
booleans_typed m k =
    comparisons_typed m k && logical_typed m k && not_typed m k && select_typed m k

-- whether ids are values of these types
unfoldable pub are_of_types : Module → List ℕ → List ℕ → Bool
are_of_types m ids types = pointwise nat_eq (map (type_of m) ids) types

-- whether ids are the parts of a composite, a struct or the vector (2.2.2, "Types")
unfoldable pub parts_typed : Module → ℕ → List ℕ → Bool
parts_typed m t ids =
    let part = operand_of m t 1 in
    if opcode_of m t == op.type_struct then are_of_types m ids (operands_from m (place_of m t) 1)
    else if opcode_of m t == op.type_vector then are_of_types m ids (part ∷ part ∷ part ∷ [])
    else false

-- the type of a composite's part by its number, or 0 where there is none
unfoldable pub part_type : Module → ℕ → ℕ → ℕ
part_type m t number =
    if opcode_of m t == op.type_struct && nat_lt number (member_count m t)
    then operand_of m t (number + 1)
    else if opcode_of m t == op.type_vector && nat_lt number 3 then operand_of m t 1
    else 0

-- the type that numbers lead to
unfoldable pub extracted_type : Module → ℕ → List ℕ → ℕ
extracted_type m t [] = t
extracted_type m t (number ∷ numbers) = extracted_type m (part_type m t number) numbers

-- OpCompositeConstruct
unfoldable pub construct_typed : Module → ℕ → Bool
construct_typed m k =
    let t = operand_at m k 0 in
    not (opcode_at m k == op.composite_construct)
    || (is_value_type m t && parts_typed m t (operands_from m k 2))

-- OpCompositeExtract
unfoldable pub extract_typed : Module → ℕ → Bool
extract_typed m k =
    let t = operand_at m k 0 in
    not (opcode_at m k == op.composite_extract)
    || (is_value_type m t
    && extracted_type m (type_of m (operand_at m k 2)) (operands_from m k 3) == t)

-- "Composite Instructions"
unfoldable pub composites_typed : Module → ℕ → Bool
composites_typed m k = construct_typed m k && extract_typed m k

-- the number of a constant of one word or two, the lower first (2.2.1, "Literal")
unfoldable pub number_of : Module → ℕ → ℕ
number_of m id = operand_of m id 2 + 2 ^ 32 * operand_of m id 3

-- the type of a struct's member by a constant, or 0 where there is none
unfoldable pub member_type : Module → ℕ → ℕ → ℕ
member_type m t index =
    let number = number_of m index in
    if opcode_of m t == op.type_struct && opcode_of m index == op.constant
    && nat_lt number (member_count m t)
    then operand_of m t (number + 1)
    else 0

-- The type that an index leads to, or 0 where it leads to none: the element of a runtime array or
-- the vector by any integer, the member of a struct by a constant (3, "OpAccessChain").
unfoldable pub indexed_type : Module → ℕ → ℕ → ℕ
indexed_type m t index =
    if not (is_integer_type m (type_of m index)) then 0
    else if opcode_of m t == op.type_runtime_array || opcode_of m t == op.type_vector
    then operand_of m t 1
    else member_type m t index

-- the type that indices lead to
unfoldable pub reached_type : Module → ℕ → List ℕ → ℕ
reached_type m t [] = t
reached_type m t (index ∷ indices) = reached_type m (indexed_type m t index) indices

-- a load goes through a pointer to exactly the result's type
unfoldable pub load_typed : Module → ℕ → Bool
load_typed m k =
    let t = operand_at m k 0 in
    let source = type_of m (operand_at m k 2) in
    not (opcode_at m k == op.load)
    || (is_value_type m t && is_pointer_type m source && pointee_of m source == t)

-- a store goes through a pointer to exactly the value's type
unfoldable pub store_typed : Module → ℕ → Bool
store_typed m k =
    let target = type_of m (operand_at m k 0) in
    not (opcode_at m k == op.store)
    || (is_pointer_type m target && is_value_type m (pointee_of m target)
    && type_of m (operand_at m k 1) == pointee_of m target)

-- a chain leads to a pointer of the same class to exactly the type reached
unfoldable pub chain_typed : Module → ℕ → Bool
chain_typed m k =
    let t = operand_at m k 0 in
    let base = type_of m (operand_at m k 2) in
    not (opcode_at m k == op.access_chain)
    || (is_pointer_type m t && is_pointer_type m base && class_of m t == class_of m base
    && reached_type m (pointee_of m base) (operands_from m k 3) == pointee_of m t)

-- whether a struct type ends with a runtime array that has this number among its members
unfoldable pub is_array_member : Module → ℕ → ℕ → Bool
is_array_member m t number =
    opcode_of m t == op.type_struct && ends_with_array m t && number + 1 == member_count m t

-- the length of an array is that of a struct's last member
unfoldable pub length_typed : Module → ℕ → Bool
length_typed m k =
    let t = operand_at m k 0 in
    let base = type_of m (operand_at m k 2) in
    not (opcode_at m k == op.array_length)
    || (is_unsigned_type m t && width_of m t == 32 && is_pointer_type m base
    && is_array_member m (pointee_of m base) (operand_at m k 3))

-- a variable has a pointer type of its class; in a function the class is Function
unfoldable pub variable_typed : Module → ℕ → Bool
variable_typed m k =
    let t = operand_at m k 0 in
    not (opcode_at m k == op.variable)
    || (is_pointer_type m t && class_of m t == operand_at m k 2
    && (not (is_inside m k)
    || (operand_at m k 2 == enumerant.function && is_value_type m (pointee_of m t))))

-- "Memory Instructions"
unfoldable pub pointers_typed : Module → ℕ → Bool
pointers_typed m k =
    load_typed m k && store_typed m k && chain_typed m k && length_typed m k && variable_typed m k

-- the type of a parameter: of a value, or a pointer of class Function
unfoldable pub is_parameter_type : Module → ℕ → Bool
is_parameter_type m t =
    is_value_type m t || (is_pointer_type m t && class_of m t == enumerant.function)

-- the type of a struct's last member: of a value, or a runtime array
unfoldable pub is_last_type : Module → ℕ → Bool
is_last_type m t = is_value_type m t || opcode_of m t == op.type_runtime_array

-- the types of a struct's members: of values, and a runtime array as the last
unfoldable pub members_typed : Module → List ℕ → Bool
members_typed m types =
    let last = length types - 1 in
    list_all (is_value_type m) (take last types) && list_all (is_last_type m) (drop last types)

-- what a pointer may lead to: all but void, pointers and functions
unfoldable pub is_pointee : Module → ℕ → Bool
is_pointee m t =
    is_type (opcode_of m t) && not (opcode_of m t == op.type_void)
    && not (is_pointer_type m t) && not (opcode_of m t == op.type_function)

-- OpTypeVector: of booleans or integers
unfoldable pub vector_typed : Module → ℕ → Bool
vector_typed m k =
    let part = operand_at m k 1 in
    not (opcode_at m k == op.type_vector) || is_boolean_type m part || is_integer_type m part

-- OpTypeRuntimeArray: of values that are stored as wholes
unfoldable pub array_typed : Module → ℕ → Bool
array_typed m k =
    not (opcode_at m k == op.type_runtime_array) || is_value_type m (operand_at m k 1)

-- OpTypeStruct
unfoldable pub struct_typed : Module → ℕ → Bool
struct_typed m k =
    not (opcode_at m k == op.type_struct) || members_typed m (operands_from m k 1)

-- OpTypePointer
unfoldable pub pointer_typed : Module → ℕ → Bool
pointer_typed m k = not (opcode_at m k == op.type_pointer) || is_pointee m (operand_at m k 2)

-- OpTypeFunction: nothing or a value from parameters
unfoldable pub signature_typed : Module → ℕ → Bool
signature_typed m k =
    let returned = operand_at m k 1 in
    not (opcode_at m k == op.type_function)
    || ((opcode_of m returned == op.type_void || is_value_type m returned)
    && list_all (is_parameter_type m) (operands_from m k 2))

-- "Type-Declaration Instructions"
unfoldable pub declarations_typed : Module → ℕ → Bool
declarations_typed m k =
    vector_typed m k && array_typed m k && struct_typed m k && pointer_typed m k
    && signature_typed m k

-- whether parameters of these types stand from a place on, and no more
unfoldable pub parameters_are : Module → ℕ → List ℕ → Bool
parameters_are m k [] = not (opcode_at m k == op.function_parameter)
parameters_are m k (t ∷ types) =
    (opcode_at m k == op.function_parameter && operand_at m k 0 == t)
    && parameters_are m (suc k) types

-- a function has the parameters and the result of its type
unfoldable pub function_typed : Module → ℕ → Bool
function_typed m k =
    let type = place_of m (operand_at m k 3) in
    not (opcode_at m k == op.function)
    || (opcode_at m type == op.type_function && operand_at m type 1 == operand_at m k 0
    && parameters_are m (k + 1) (operands_from m type 2))

-- a call has its function's result, and values for arguments
unfoldable pub call_typed : Module → ℕ → Bool
call_typed m k =
    let callee = operand_at m k 2 in
    not (opcode_at m k == op.function_call)
    || (opcode_of m callee == op.function && operand_of m callee 0 == operand_at m k 0
    && list_all (is_value m) (operands_from m k 3))

-- "Function Instructions"
unfoldable pub functions_typed : Module → ℕ → Bool
functions_typed m k = function_typed m k && call_typed m k

-- OpLoopMerge, OpSelectionMerge, OpBranch: they name labels
unfoldable pub merge_typed : Module → ℕ → Bool
merge_typed m k =
    let opcode = opcode_at m k in
    (not (opcode == op.loop_merge || opcode == op.selection_merge || opcode == op.branch)
    || is_label m (operand_at m k 0))
    && (not (opcode == op.loop_merge) || is_label m (operand_at m k 1))

-- OpBranchConditional: a boolean and two labels
unfoldable pub conditional_typed : Module → ℕ → Bool
conditional_typed m k =
    not (opcode_at m k == op.branch_conditional)
    || (is_boolean m (operand_at m k 0) && is_label m (operand_at m k 1)
    && is_label m (operand_at m k 2))

-- OpReturnValue: a value
unfoldable pub return_typed : Module → ℕ → Bool
return_typed m k = not (opcode_at m k == op.return_value) || is_value m (operand_at m k 0)

-- "Control-Flow Instructions"
unfoldable pub branches_typed : Module → ℕ → Bool
branches_typed m k = merge_typed m k && conditional_typed m k && return_typed m k

-- Rule 10: operands and results have the types that the opcode asks.
unfoldable pub types_fit : Module → ℕ → Bool
types_fit m k =
    integers_typed m k && booleans_typed m k && composites_typed m k && pointers_typed m k
    && declarations_typed m k && functions_typed m k && branches_typed m k

-- OpConstantTrue, OpConstantFalse: of a boolean type
unfoldable pub truth_typed : Module → ℕ → Bool
truth_typed m k =
    let opcode = opcode_at m k in
    not (opcode == op.constant_true || opcode == op.constant_false)
    || is_boolean_type m (operand_at m k 0)

-- OpConstant: of an integer type, with as many words as its width asks
unfoldable pub number_typed : Module → ℕ → Bool
number_typed m k =
    let t = operand_at m k 0 in
    not (opcode_at m k == op.constant)
    || (is_integer_type m t && operand_count m k == 2 + width_of m t / 32)

-- OpConstantNull: of a type of values that are stored as wholes
unfoldable pub null_typed : Module → ℕ → Bool
null_typed m k = not (opcode_at m k == op.constant_null) || is_value_type m (operand_at m k 0)

-- Rule 11: a constant has a type that fits it, and an integer as many words as its width asks.
unfoldable pub constants_fit : Module → ℕ → Bool
constants_fit m k = truth_typed m k && number_typed m k && null_typed m k

-- whether an argument that is a pointer is a variable or a parameter
unfoldable pub is_argument : Module → ℕ → Bool
is_argument m id =
    not (is_pointer_type m (type_of m id))
    || opcode_of m id == op.variable || opcode_of m id == op.function_parameter

-- Rule 18, on each call: its arguments fit, and the entry point is not called.
unfoldable pub arguments_fit : Module → ℕ → Bool
arguments_fit m k =
    let callee = operand_at m k 2 in
    not (opcode_at m k == op.function_call)
    || (not (callee == entry_function m)
    && are_of_types m (operands_from m k 3) (operands_from m (place_of m (operand_of m callee 3)) 2)
    && list_all (is_argument m) (operands_from m k 3))

-- the type that the function around a place returns
unfoldable pub returned_type : Module → ℕ → ℕ
returned_type m k = operand_at m (function_at m k - 1) 0

-- Rule 19: a return fits its function's type.
unfoldable pub returns_fit : Module → ℕ → Bool
returns_fit m k =
    let opcode = opcode_at m k in
    (not (opcode == op.return) || opcode_of m (returned_type m k) == op.type_void)
    && (not (opcode == op.return_value) || type_of m (operand_at m k 0) == returned_type m k)

-- The opcodes in use (SPIR-V 1.5, 3, "Instructions").
use Rattle.std.specs.Prelude.{ℕ}

-- `OpName`
abbrev pub name : ℕ
name = 5

-- `OpMemoryModel`
abbrev pub memory_model : ℕ
memory_model = 14

-- `OpEntryPoint`
abbrev pub entry_point : ℕ
entry_point = 15

-- `OpExecutionMode`
abbrev pub execution_mode : ℕ
execution_mode = 16

-- `OpCapability`
abbrev pub capability : ℕ
capability = 17

-- `OpTypeVoid`
abbrev pub type_void : ℕ
type_void = 19

-- `OpTypeBool`
abbrev pub type_bool : ℕ
type_bool = 20

-- `OpTypeInt`
abbrev pub type_int : ℕ
type_int = 21

-- `OpTypeVector`
abbrev pub type_vector : ℕ
type_vector = 23

-- `OpTypeRuntimeArray`
abbrev pub type_runtime_array : ℕ
type_runtime_array = 29

-- `OpTypeStruct`
abbrev pub type_struct : ℕ
type_struct = 30

-- `OpTypePointer`
abbrev pub type_pointer : ℕ
type_pointer = 32

-- `OpTypeFunction`
abbrev pub type_function : ℕ
type_function = 33

-- `OpConstantTrue`
abbrev pub constant_true : ℕ
constant_true = 41

-- `OpConstantFalse`
abbrev pub constant_false : ℕ
constant_false = 42

-- `OpConstant`
abbrev pub constant : ℕ
constant = 43

-- `OpConstantNull`
abbrev pub constant_null : ℕ
constant_null = 46

-- `OpFunction`
abbrev pub function : ℕ
function = 54

-- `OpFunctionParameter`
abbrev pub function_parameter : ℕ
function_parameter = 55

-- `OpFunctionEnd`
abbrev pub function_end : ℕ
function_end = 56

-- `OpFunctionCall`
abbrev pub function_call : ℕ
function_call = 57

-- `OpVariable`
abbrev pub variable : ℕ
variable = 59

-- `OpLoad`
abbrev pub load : ℕ
load = 61

-- `OpStore`
abbrev pub store : ℕ
store = 62

-- `OpAccessChain`
abbrev pub access_chain : ℕ
access_chain = 65

-- `OpArrayLength`
abbrev pub array_length : ℕ
array_length = 68

-- `OpDecorate`
abbrev pub decorate : ℕ
decorate = 71

-- `OpMemberDecorate`
abbrev pub member_decorate : ℕ
member_decorate = 72

-- `OpCompositeConstruct`
abbrev pub composite_construct : ℕ
composite_construct = 80

-- `OpCompositeExtract`
abbrev pub composite_extract : ℕ
composite_extract = 81

-- `OpBitcast`
abbrev pub bitcast : ℕ
bitcast = 124

-- `OpSNegate`
abbrev pub signed_negate : ℕ
signed_negate = 126

-- `OpIAdd`
abbrev pub integer_add : ℕ
integer_add = 128

-- `OpISub`
abbrev pub integer_subtract : ℕ
integer_subtract = 130

-- `OpIMul`
abbrev pub integer_multiply : ℕ
integer_multiply = 132

-- `OpUDiv`
abbrev pub unsigned_divide : ℕ
unsigned_divide = 134

-- `OpSDiv`
abbrev pub signed_divide : ℕ
signed_divide = 135

-- `OpUMod`
abbrev pub unsigned_modulo : ℕ
unsigned_modulo = 137

-- `OpSRem`
abbrev pub signed_remainder : ℕ
signed_remainder = 138

-- `OpLogicalEqual`
abbrev pub logical_equal : ℕ
logical_equal = 164

-- `OpLogicalNotEqual`
abbrev pub logical_not_equal : ℕ
logical_not_equal = 165

-- `OpLogicalOr`
abbrev pub logical_or : ℕ
logical_or = 166

-- `OpLogicalAnd`
abbrev pub logical_and : ℕ
logical_and = 167

-- `OpLogicalNot`
abbrev pub logical_not : ℕ
logical_not = 168

-- `OpSelect`
abbrev pub select : ℕ
select = 169

-- `OpIEqual`
abbrev pub integer_equal : ℕ
integer_equal = 170

-- `OpINotEqual`
abbrev pub integer_not_equal : ℕ
integer_not_equal = 171

-- `OpUGreaterThan`
abbrev pub unsigned_greater_than : ℕ
unsigned_greater_than = 172

-- `OpSGreaterThan`
abbrev pub signed_greater_than : ℕ
signed_greater_than = 173

-- `OpUGreaterThanEqual`
abbrev pub unsigned_greater_than_equal : ℕ
unsigned_greater_than_equal = 174

-- `OpSGreaterThanEqual`
abbrev pub signed_greater_than_equal : ℕ
signed_greater_than_equal = 175

-- `OpULessThan`
abbrev pub unsigned_less_than : ℕ
unsigned_less_than = 176

-- `OpSLessThan`
abbrev pub signed_less_than : ℕ
signed_less_than = 177

-- `OpULessThanEqual`
abbrev pub unsigned_less_than_equal : ℕ
unsigned_less_than_equal = 178

-- `OpSLessThanEqual`
abbrev pub signed_less_than_equal : ℕ
signed_less_than_equal = 179

-- `OpShiftRightLogical`
abbrev pub shift_right_logical : ℕ
shift_right_logical = 194

-- `OpShiftRightArithmetic`
abbrev pub shift_right_arithmetic : ℕ
shift_right_arithmetic = 195

-- `OpShiftLeftLogical`
abbrev pub shift_left_logical : ℕ
shift_left_logical = 196

-- `OpBitwiseOr`
abbrev pub bitwise_or : ℕ
bitwise_or = 197

-- `OpBitwiseXor`
abbrev pub bitwise_xor : ℕ
bitwise_xor = 198

-- `OpBitwiseAnd`
abbrev pub bitwise_and : ℕ
bitwise_and = 199

-- `OpNot`
abbrev pub bitwise_not : ℕ
bitwise_not = 200

-- `OpLoopMerge`
abbrev pub loop_merge : ℕ
loop_merge = 246

-- `OpSelectionMerge`
abbrev pub selection_merge : ℕ
selection_merge = 247

-- `OpLabel`
abbrev pub label : ℕ
label = 248

-- `OpBranch`
abbrev pub branch : ℕ
branch = 249

-- `OpBranchConditional`
abbrev pub branch_conditional : ℕ
branch_conditional = 250

-- `OpReturn`
abbrev pub return : ℕ
return = 253

-- `OpReturnValue`
abbrev pub return_value : ℕ
return_value = 254

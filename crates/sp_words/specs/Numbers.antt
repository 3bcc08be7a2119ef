-- The numbers that this crate has as constants are the definitions' own.
use Rattle.std.specs.Prelude.{◌≡◌}
use Rattle.def_spirv.specs.Enumerants as enumerants
use Rattle.def_spirv.specs.Opcodes as opcodes
use Rattle.sp_words.specs.declared.enumerant.TheConstants as enumerant
use Rattle.sp_words.specs.declared.opcode.TheConstants as opcode

-- each opcode is the definitions' opcode of that name
pub record OpcodesAgree : Type 0 where
  pub name : opcode.NAME ≡ opcodes.name
  pub memory_model : opcode.MEMORY_MODEL ≡ opcodes.memory_model
  pub entry_point : opcode.ENTRY_POINT ≡ opcodes.entry_point
  pub execution_mode : opcode.EXECUTION_MODE ≡ opcodes.execution_mode
  pub capability : opcode.CAPABILITY ≡ opcodes.capability
  pub type_void : opcode.TYPE_VOID ≡ opcodes.type_void
  pub type_bool : opcode.TYPE_BOOL ≡ opcodes.type_bool
  pub type_int : opcode.TYPE_INT ≡ opcodes.type_int
  pub type_vector : opcode.TYPE_VECTOR ≡ opcodes.type_vector
  pub type_runtime_array : opcode.TYPE_RUNTIME_ARRAY ≡ opcodes.type_runtime_array
  pub type_struct : opcode.TYPE_STRUCT ≡ opcodes.type_struct
  pub type_pointer : opcode.TYPE_POINTER ≡ opcodes.type_pointer
  pub type_function : opcode.TYPE_FUNCTION ≡ opcodes.type_function
  pub constant_true : opcode.CONSTANT_TRUE ≡ opcodes.constant_true
  pub constant_false : opcode.CONSTANT_FALSE ≡ opcodes.constant_false
  pub constant : opcode.CONSTANT ≡ opcodes.constant
  pub constant_null : opcode.CONSTANT_NULL ≡ opcodes.constant_null
  pub function : opcode.FUNCTION ≡ opcodes.function
  pub function_parameter : opcode.FUNCTION_PARAMETER ≡ opcodes.function_parameter
  pub function_end : opcode.FUNCTION_END ≡ opcodes.function_end
  pub function_call : opcode.FUNCTION_CALL ≡ opcodes.function_call
  pub variable : opcode.VARIABLE ≡ opcodes.variable
  pub load : opcode.LOAD ≡ opcodes.load
  pub store : opcode.STORE ≡ opcodes.store
  pub access_chain : opcode.ACCESS_CHAIN ≡ opcodes.access_chain
  pub array_length : opcode.ARRAY_LENGTH ≡ opcodes.array_length
  pub decorate : opcode.DECORATE ≡ opcodes.decorate
  pub member_decorate : opcode.MEMBER_DECORATE ≡ opcodes.member_decorate
  pub composite_construct : opcode.COMPOSITE_CONSTRUCT ≡ opcodes.composite_construct
  pub composite_extract : opcode.COMPOSITE_EXTRACT ≡ opcodes.composite_extract
  pub bitcast : opcode.BITCAST ≡ opcodes.bitcast
  pub signed_negate : opcode.SIGNED_NEGATE ≡ opcodes.signed_negate
  pub integer_add : opcode.INTEGER_ADD ≡ opcodes.integer_add
  pub integer_subtract : opcode.INTEGER_SUBTRACT ≡ opcodes.integer_subtract
  pub integer_multiply : opcode.INTEGER_MULTIPLY ≡ opcodes.integer_multiply
  pub unsigned_divide : opcode.UNSIGNED_DIVIDE ≡ opcodes.unsigned_divide
  pub signed_divide : opcode.SIGNED_DIVIDE ≡ opcodes.signed_divide
  pub unsigned_modulo : opcode.UNSIGNED_MODULO ≡ opcodes.unsigned_modulo
  pub signed_remainder : opcode.SIGNED_REMAINDER ≡ opcodes.signed_remainder
  pub logical_equal : opcode.LOGICAL_EQUAL ≡ opcodes.logical_equal
  pub logical_not_equal : opcode.LOGICAL_NOT_EQUAL ≡ opcodes.logical_not_equal
  pub logical_or : opcode.LOGICAL_OR ≡ opcodes.logical_or
  pub logical_and : opcode.LOGICAL_AND ≡ opcodes.logical_and
  pub logical_not : opcode.LOGICAL_NOT ≡ opcodes.logical_not
  pub select : opcode.SELECT ≡ opcodes.select
  pub integer_equal : opcode.INTEGER_EQUAL ≡ opcodes.integer_equal
  pub integer_not_equal : opcode.INTEGER_NOT_EQUAL ≡ opcodes.integer_not_equal
  pub unsigned_greater_than : opcode.UNSIGNED_GREATER_THAN ≡ opcodes.unsigned_greater_than
  pub signed_greater_than : opcode.SIGNED_GREATER_THAN ≡ opcodes.signed_greater_than
  pub unsigned_greater_than_equal : opcode.UNSIGNED_GREATER_THAN_EQUAL
      ≡ opcodes.unsigned_greater_than_equal
  pub signed_greater_than_equal : opcode.SIGNED_GREATER_THAN_EQUAL
      ≡ opcodes.signed_greater_than_equal
  pub unsigned_less_than : opcode.UNSIGNED_LESS_THAN ≡ opcodes.unsigned_less_than
  pub signed_less_than : opcode.SIGNED_LESS_THAN ≡ opcodes.signed_less_than
  pub unsigned_less_than_equal : opcode.UNSIGNED_LESS_THAN_EQUAL ≡ opcodes.unsigned_less_than_equal
  pub signed_less_than_equal : opcode.SIGNED_LESS_THAN_EQUAL ≡ opcodes.signed_less_than_equal
  pub shift_right_logical : opcode.SHIFT_RIGHT_LOGICAL ≡ opcodes.shift_right_logical
  pub shift_right_arithmetic : opcode.SHIFT_RIGHT_ARITHMETIC ≡ opcodes.shift_right_arithmetic
  pub shift_left_logical : opcode.SHIFT_LEFT_LOGICAL ≡ opcodes.shift_left_logical
  pub bitwise_or : opcode.BITWISE_OR ≡ opcodes.bitwise_or
  pub bitwise_xor : opcode.BITWISE_XOR ≡ opcodes.bitwise_xor
  pub bitwise_and : opcode.BITWISE_AND ≡ opcodes.bitwise_and
  pub bitwise_not : opcode.BITWISE_NOT ≡ opcodes.bitwise_not
  pub loop_merge : opcode.LOOP_MERGE ≡ opcodes.loop_merge
  pub selection_merge : opcode.SELECTION_MERGE ≡ opcodes.selection_merge
  pub label : opcode.LABEL ≡ opcodes.label
  pub branch : opcode.BRANCH ≡ opcodes.branch
  pub branch_conditional : opcode.BRANCH_CONDITIONAL ≡ opcodes.branch_conditional
  pub return : opcode.RETURN ≡ opcodes.return
  pub return_value : opcode.RETURN_VALUE ≡ opcodes.return_value

-- each enumerant is the definitions' enumerant of that name
pub record EnumerantsAgree : Type 0 where
  pub execution_model_gl_compute : enumerant.EXECUTION_MODEL_GL_COMPUTE ≡ enumerants.gl_compute
  pub addressing_model_logical : enumerant.ADDRESSING_MODEL_LOGICAL ≡ enumerants.logical
  pub memory_model_glsl450 : enumerant.MEMORY_MODEL_GLSL450 ≡ enumerants.glsl450
  pub execution_mode_local_size : enumerant.EXECUTION_MODE_LOCAL_SIZE ≡ enumerants.local_size
  pub storage_class_input : enumerant.STORAGE_CLASS_INPUT ≡ enumerants.input
  pub storage_class_function : enumerant.STORAGE_CLASS_FUNCTION ≡ enumerants.function
  pub storage_class_storage_buffer :
      enumerant.STORAGE_CLASS_STORAGE_BUFFER ≡ enumerants.storage_buffer
  pub decoration_block : enumerant.DECORATION_BLOCK ≡ enumerants.block
  pub decoration_array_stride : enumerant.DECORATION_ARRAY_STRIDE ≡ enumerants.array_stride
  pub decoration_built_in : enumerant.DECORATION_BUILT_IN ≡ enumerants.built_in
  pub decoration_non_writable : enumerant.DECORATION_NON_WRITABLE ≡ enumerants.non_writable
  pub decoration_binding : enumerant.DECORATION_BINDING ≡ enumerants.binding
  pub decoration_descriptor_set : enumerant.DECORATION_DESCRIPTOR_SET ≡ enumerants.descriptor_set
  pub decoration_offset : enumerant.DECORATION_OFFSET ≡ enumerants.offset
  pub built_in_global_invocation_id :
      enumerant.BUILT_IN_GLOBAL_INVOCATION_ID ≡ enumerants.global_invocation_id
  pub selection_control_none : enumerant.SELECTION_CONTROL_NONE ≡ enumerants.none
  pub function_control_none : enumerant.FUNCTION_CONTROL_NONE ≡ enumerants.none
  pub capability_shader : enumerant.CAPABILITY_SHADER ≡ enumerants.shader

-- The instructions in use as a table: of each opcode, which operands its instructions have, in
-- order. What the standard leaves optional is no operand here, unless the table has it. The titles
-- are those of sections of SPIR-V 1.5, 3, "Binary Form".
use Rattle.std.specs.Prelude.{ℕ, ◌==◌, Bool, Option, is_some, List, [], ◌∷◌, ◌++◌}
use Rattle.std.specs.List.{find}
use Rattle.std.specs.Option.{option_map}
use Rattle.def_spirv.specs.Opcodes as op

-- an enumeration that a word may be of, named by the title of its section
pub data Enumeration : Type 0 where
  ExecutionModel : Enumeration
  AddressingModel : Enumeration
  MemoryModel : Enumeration
  ExecutionMode : Enumeration
  StorageClass : Enumeration
  SelectionControl : Enumeration
  LoopControl : Enumeration
  FunctionControl : Enumeration
  Decoration : Enumeration
  Capability : Enumeration

-- what a word is: the id of the result's type, the id that the instruction defines, an id that is
-- defined elsewhere, a literal number, or a number of an enumeration
-- (SPIR-V 1.5, 2.2.1, "Instructions")
pub data Role : Type 0 where
  ResultType : Role
  Result : Role
  Reference : Role
  LiteralNumber : Role
  Enumerant : Enumeration → Role

-- what stands at an operand's place: one word, a string, or none or more words up to the
-- instruction's end
pub data Kind : Type 0 where
  One : Role → Kind
  LiteralString : Kind
  Rest : Role → Kind

-- an opcode, and what its instructions have behind it
pub record Entry : Type 0 where
  pub opcode : ℕ
  pub kinds : List Kind

-- an entry of the table
abbrev pub entry : ℕ → List Kind → Entry
entry opcode kinds = record { opcode = opcode; kinds = kinds }

-- a value of a type, and what it is made from
abbrev pub value : List Kind → List Kind
value kinds = One ResultType ∷ One Result ∷ kinds

-- the table's entries of "Debug Instructions"
abbrev pub debug : List Entry
debug = entry op.name (One Reference ∷ LiteralString ∷ []) ∷ []

-- of "Annotation Instructions"
abbrev pub annotation : List Entry
annotation =
    entry op.decorate (One Reference ∷ One (Enumerant Decoration) ∷ Rest LiteralNumber ∷ [])
    ∷ entry op.member_decorate
    (One Reference ∷ One LiteralNumber ∷ One (Enumerant Decoration) ∷ Rest LiteralNumber ∷ [])
    ∷ []

-- of "Mode-Setting Instructions"
abbrev pub mode_setting : List Entry
mode_setting =
    entry op.memory_model (One (Enumerant AddressingModel) ∷ One (Enumerant MemoryModel) ∷ [])
    ∷ entry op.entry_point
    (One (Enumerant ExecutionModel) ∷ One Reference ∷ LiteralString ∷ Rest Reference ∷ [])
    ∷ entry op.execution_mode
    (One Reference ∷ One (Enumerant ExecutionMode) ∷ Rest LiteralNumber ∷ [])
    ∷ entry op.capability (One (Enumerant Capability) ∷ [])
    ∷ []

-- of "Type-Declaration Instructions"
abbrev pub type_declaration : List Entry
type_declaration =
    entry op.type_void (One Result ∷ [])
    ∷ entry op.type_bool (One Result ∷ [])
    ∷ entry op.type_int (One Result ∷ One LiteralNumber ∷ One LiteralNumber ∷ [])
    ∷ entry op.type_vector (One Result ∷ One Reference ∷ One LiteralNumber ∷ [])
    ∷ entry op.type_runtime_array (One Result ∷ One Reference ∷ [])
    ∷ entry op.type_struct (One Result ∷ Rest Reference ∷ [])
    ∷ entry op.type_pointer (One Result ∷ One (Enumerant StorageClass) ∷ One Reference ∷ [])
    ∷ entry op.type_function (One Result ∷ One Reference ∷ Rest Reference ∷ [])
    ∷ []

-- of "Constant-Creation Instructions"; a wider constant has more words
abbrev pub constant_creation : List Entry
constant_creation =
    entry op.constant_true (value [])
    ∷ entry op.constant_false (value [])
    ∷ entry op.constant (value (One LiteralNumber ∷ Rest LiteralNumber ∷ []))
    ∷ entry op.constant_null (value [])
    ∷ []

-- of "Memory Instructions"
abbrev pub memory : List Entry
memory =
    entry op.variable (value (One (Enumerant StorageClass) ∷ []))
    ∷ entry op.load (value (One Reference ∷ []))
    ∷ entry op.store (One Reference ∷ One Reference ∷ [])
    ∷ entry op.access_chain (value (One Reference ∷ Rest Reference ∷ []))
    ∷ entry op.array_length (value (One Reference ∷ One LiteralNumber ∷ []))
    ∷ []

-- of "Function Instructions"
abbrev pub function : List Entry
function =
    entry op.function (value (One (Enumerant FunctionControl) ∷ One Reference ∷ []))
    ∷ entry op.function_parameter (value [])
    ∷ entry op.function_end []
    ∷ entry op.function_call (value (One Reference ∷ Rest Reference ∷ []))
    ∷ []

-- of "Conversion Instructions"
abbrev pub conversion : List Entry
conversion = entry op.bitcast (value (One Reference ∷ [])) ∷ []

-- of "Composite Instructions"
abbrev pub composite : List Entry
composite =
    entry op.composite_construct (value (Rest Reference ∷ []))
    ∷ entry op.composite_extract
    (value (One Reference ∷ One LiteralNumber ∷ Rest LiteralNumber ∷ []))
    ∷ []

-- a value made from one other
abbrev pub of_one : ℕ → Entry
of_one opcode = entry opcode (value (One Reference ∷ []))

-- a value made from two others
abbrev pub of_two : ℕ → Entry
of_two opcode = entry opcode (value (One Reference ∷ One Reference ∷ []))

-- a value made from three others
abbrev pub of_three : ℕ → Entry
of_three opcode = entry opcode (value (One Reference ∷ One Reference ∷ One Reference ∷ []))

-- of "Arithmetic Instructions"
abbrev pub arithmetic : List Entry
arithmetic =
    of_one op.signed_negate
    ∷ of_two op.integer_add
    ∷ of_two op.integer_subtract
    ∷ of_two op.integer_multiply
    ∷ of_two op.unsigned_divide
    ∷ of_two op.signed_divide
    ∷ of_two op.unsigned_modulo
    ∷ of_two op.signed_remainder
    ∷ []

-- of "Bit Instructions"
abbrev pub bit : List Entry
bit =
    of_two op.shift_right_logical
    ∷ of_two op.shift_right_arithmetic
    ∷ of_two op.shift_left_logical
    ∷ of_two op.bitwise_or
    ∷ of_two op.bitwise_xor
    ∷ of_two op.bitwise_and
    ∷ of_one op.bitwise_not
    ∷ []

-- of "Relational and Logical Instructions"
abbrev pub relational : List Entry
relational =
    of_two op.logical_equal
    ∷ of_two op.logical_not_equal
    ∷ of_two op.logical_or
    ∷ of_two op.logical_and
    ∷ of_one op.logical_not
    ∷ of_three op.select
    ∷ of_two op.integer_equal
    ∷ of_two op.integer_not_equal
    ∷ of_two op.unsigned_greater_than
    ∷ of_two op.signed_greater_than
    ∷ of_two op.unsigned_greater_than_equal
    ∷ of_two op.signed_greater_than_equal
    ∷ of_two op.unsigned_less_than
    ∷ of_two op.signed_less_than
    ∷ of_two op.unsigned_less_than_equal
    ∷ of_two op.signed_less_than_equal
    ∷ []

-- of "Control-Flow Instructions"
abbrev pub control_flow : List Entry
control_flow =
    entry op.loop_merge (One Reference ∷ One Reference ∷ One (Enumerant LoopControl) ∷ [])
    ∷ entry op.selection_merge (One Reference ∷ One (Enumerant SelectionControl) ∷ [])
    ∷ entry op.label (One Result ∷ [])
    ∷ entry op.branch (One Reference ∷ [])
    ∷ entry op.branch_conditional (One Reference ∷ One Reference ∷ One Reference ∷ [])
    ∷ entry op.return []
    ∷ entry op.return_value (One Reference ∷ [])
    ∷ []

-- the whole table
unfoldable pub table : List Entry
table =
    debug ++ annotation ++ mode_setting ++ type_declaration ++ constant_creation ++ memory
    ++ function ++ conversion ++ composite ++ arithmetic ++ bit ++ relational ++ control_flow

-- what the instructions of an opcode have behind it, where the table has the opcode
abbrev pub kinds_of : ℕ → Option (List Kind)
kinds_of opcode = option_map (λ e. e.kinds) (find (λ e. e.opcode == opcode) table)

-- whether the table has an opcode
abbrev pub is_known : ℕ → Bool
is_known opcode = is_some (kinds_of opcode)

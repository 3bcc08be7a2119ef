-- The instructions of a module that writes one buffer, section by section
-- (SPIR-V 1.5, 2.4, "Logical Layout of a Module").
use Rattle.std.specs.Prelude.{ℕ, List, [], ◌∷◌, ◌++◌}
use Rattle.def_slang.specs.BufferWrite.{BufferWrite}
use Rattle.def_spirv.specs.Words.{Instruction, text_words}
use Rattle.def_spirv.specs.Opcodes as op
use Rattle.def_spirv.specs.Enumerants as enumerant
use Rattle.sl_run.specs.declared.module.id.TheConstants as id

-- an instruction of an opcode and operands
abbrev pub instruction : ℕ → List ℕ → Instruction
instruction opcode operands = record { opcode = opcode; operands = operands }

-- the one capability, shaders
abbrev pub capabilities : List Instruction
capabilities = instruction op.capability (enumerant.shader ∷ []) ∷ []

-- logical addressing, and the memory model of GLSL
abbrev pub memory_model : List Instruction
memory_model = instruction op.memory_model (enumerant.logical ∷ enumerant.glsl450 ∷ []) ∷ []

-- the entry point, with its name and the variables that it uses
abbrev pub entry_point : List ℕ → Instruction
entry_point name =
    instruction op.entry_point
    (enumerant.gl_compute ∷ id.ENTRY_POINT ∷ text_words name ++ id.DISPATCH_ID ∷ id.BUFFER ∷ [])

-- the one entry point
abbrev pub entry_points : BufferWrite → List Instruction
entry_points w = entry_point w.entry ∷ []

-- the threads of a group
abbrev pub execution_modes : BufferWrite → List Instruction
execution_modes w =
    instruction op.execution_mode
    (id.ENTRY_POINT ∷ enumerant.local_size ∷ w.threads.0 ∷ w.threads.1 ∷ w.threads.2 ∷ []) ∷ []

-- the name of an id
abbrev pub name_of : ℕ → List ℕ → Instruction
name_of target name = instruction op.name (target ∷ text_words name)

-- the names of the entry point and the buffer
abbrev pub names : BufferWrite → List Instruction
names w = name_of id.ENTRY_POINT w.entry ∷ name_of id.BUFFER w.buffer ∷ []

-- which input the dispatch id is, where the buffer is bound, and how its elements lie
abbrev pub decorations : List Instruction
decorations =
    instruction op.decorate
    (id.DISPATCH_ID ∷ enumerant.built_in ∷ enumerant.global_invocation_id ∷ [])
    ∷ instruction op.decorate (id.BUFFER ∷ enumerant.descriptor_set ∷ 0 ∷ [])
    ∷ instruction op.decorate (id.BUFFER ∷ enumerant.binding ∷ 0 ∷ [])
    ∷ instruction op.decorate (id.ARRAY ∷ enumerant.array_stride ∷ 4 ∷ [])
    ∷ instruction op.decorate (id.BLOCK ∷ enumerant.block ∷ [])
    ∷ instruction op.member_decorate (id.BLOCK ∷ 0 ∷ enumerant.offset ∷ 0 ∷ [])
    ∷ []

-- the dispatch id, with its types
abbrev pub dispatch_id : List Instruction
dispatch_id =
    instruction op.type_int (id.UINT ∷ 32 ∷ 0 ∷ [])
    ∷ instruction op.type_vector (id.UINT3 ∷ id.UINT ∷ 3 ∷ [])
    ∷ instruction op.type_pointer (id.UINT3_POINTER ∷ enumerant.input ∷ id.UINT3 ∷ [])
    ∷ instruction op.variable (id.UINT3_POINTER ∷ id.DISPATCH_ID ∷ enumerant.input ∷ [])
    ∷ []

-- the buffer, with its types
abbrev pub buffer : List Instruction
buffer =
    instruction op.type_int (id.INT ∷ 32 ∷ 1 ∷ [])
    ∷ instruction op.type_runtime_array (id.ARRAY ∷ id.INT ∷ [])
    ∷ instruction op.type_struct (id.BLOCK ∷ id.ARRAY ∷ [])
    ∷ instruction op.type_pointer (id.BLOCK_POINTER ∷ enumerant.storage_buffer ∷ id.BLOCK ∷ [])
    ∷ instruction op.variable (id.BLOCK_POINTER ∷ id.BUFFER ∷ enumerant.storage_buffer ∷ [])
    ∷ []

-- the other types that the function names
abbrev pub function_types : List Instruction
function_types =
    instruction op.type_void (id.VOID ∷ [])
    ∷ instruction op.type_function (id.VOID_FUNCTION ∷ id.VOID ∷ [])
    ∷ instruction op.type_pointer (id.UINT_POINTER ∷ enumerant.function ∷ id.UINT ∷ [])
    ∷ instruction op.type_bool (id.BOOL ∷ [])
    ∷ instruction op.type_pointer (id.INT_POINTER ∷ enumerant.storage_buffer ∷ id.INT ∷ [])
    ∷ []

-- 0, and the number that is written
abbrev pub constants : ℕ → List Instruction
constants value =
    instruction op.constant (id.UINT ∷ id.ZERO ∷ 0 ∷ [])
    ∷ instruction op.constant (id.INT ∷ id.VALUE ∷ value ∷ [])
    ∷ []

-- types, constants and variables, each in front of what names it
abbrev pub globals : BufferWrite → List Instruction
globals w = dispatch_id ++ buffer ++ function_types ++ constants w.value

-- the head of the function: its label, and the variable of the index
abbrev pub function_head : List Instruction
function_head =
    instruction op.function (id.VOID ∷ id.ENTRY_POINT ∷ enumerant.none ∷ id.VOID_FUNCTION ∷ [])
    ∷ instruction op.label (id.START ∷ [])
    ∷ instruction op.variable (id.UINT_POINTER ∷ id.INDEX_VARIABLE ∷ enumerant.function ∷ [])
    ∷ []

-- the first component of the dispatch id goes into that variable
abbrev pub index_read : List Instruction
index_read =
    instruction op.load (id.UINT3 ∷ id.VECTOR ∷ id.DISPATCH_ID ∷ [])
    ∷ instruction op.composite_extract (id.UINT ∷ id.COMPONENT ∷ id.VECTOR ∷ 0 ∷ [])
    ∷ instruction op.store (id.INDEX_VARIABLE ∷ id.COMPONENT ∷ [])
    ∷ []

-- the branch on whether the index is below the buffer's length
abbrev pub bounds_test : List Instruction
bounds_test =
    instruction op.load (id.UINT ∷ id.TESTED_INDEX ∷ id.INDEX_VARIABLE ∷ [])
    ∷ instruction op.array_length (id.UINT ∷ id.LENGTH ∷ id.BUFFER ∷ 0 ∷ [])
    ∷ instruction op.unsigned_less_than (id.BOOL ∷ id.WITHIN ∷ id.TESTED_INDEX ∷ id.LENGTH ∷ [])
    ∷ instruction op.selection_merge (id.MERGE ∷ enumerant.none ∷ [])
    ∷ instruction op.branch_conditional (id.WITHIN ∷ id.INNER ∷ id.MERGE ∷ [])
    ∷ []

-- the block that writes the element
abbrev pub element_write : List Instruction
element_write =
    instruction op.label (id.INNER ∷ [])
    ∷ instruction op.load (id.UINT ∷ id.INDEX ∷ id.INDEX_VARIABLE ∷ [])
    ∷ instruction op.access_chain
    (id.INT_POINTER ∷ id.ELEMENT ∷ id.BUFFER ∷ id.ZERO ∷ id.INDEX ∷ [])
    ∷ instruction op.store (id.ELEMENT ∷ id.VALUE ∷ [])
    ∷ instruction op.branch (id.MERGE ∷ [])
    ∷ []

-- the block behind the write, with which the function ends
abbrev pub function_end : List Instruction
function_end =
    instruction op.label (id.MERGE ∷ [])
    ∷ instruction op.return []
    ∷ instruction op.function_end []
    ∷ []

-- the entry point's function
abbrev pub functions : List Instruction
functions = function_head ++ index_read ++ bounds_test ++ element_write ++ function_end

-- all of them
abbrev pub instructions_of : BufferWrite → List Instruction
instructions_of w =
    capabilities ++ memory_model ++ entry_points w ++ execution_modes w ++ names w ++ decorations
    ++ globals w ++ functions

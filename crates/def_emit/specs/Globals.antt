-- The section of types, constants and variables.
use Rattle.std.specs.Prelude.{ℕ, List, [], ◌∷◌, ◌++◌, map}
use Rattle.std.specs.List.{flat_map}
use Rattle.def_spirv.specs.Symbolic.{Operand, Id, Number, Line, firsts, mentions}
use Rattle.def_spirv.specs.Opcodes as op
use Rattle.def_spirv.specs.Enumerants as enumerant
use Rattle.def_emit.specs.Program.{Scalar, Int, Uint}
use Rattle.def_emit.specs.Symbol as shape
use Rattle.def_emit.specs.Symbol.{Shape, Global, TypeOf, Constant, DispatchId, BufferVariable, Symbol, Of, Entry, Start, SlotVariable, Result, same_global}

-- an instruction over symbols
abbrev pub line : ℕ → List (Operand Symbol) → Line Symbol
line opcode operands = record { opcode = opcode; operands = operands }

-- the id of a type
abbrev pub shape_id : Shape → Operand Symbol
shape_id t = Id (Of (TypeOf t))

-- the pointer through which the dispatch id is read
abbrev pub dispatch_pointer : Shape
dispatch_pointer = shape.Pointer enumerant.input shape.Uint3

-- the array of a buffer's elements
abbrev pub array_of : Scalar → Shape
array_of element = shape.RuntimeArray (shape.Number element)

-- the block of a buffer
abbrev pub block_of : Scalar → Shape
block_of element = shape.Block (array_of element)

-- the pointer through which a buffer is reached
abbrev pub block_pointer : Scalar → Shape
block_pointer element = shape.Pointer enumerant.storage_buffer (block_of element)

-- a type behind its parts, each part before the whole
abbrev pub shape_parts : Shape → List Shape
shape_parts shape.Void = shape.Void ∷ []
shape_parts shape.Bit = shape.Bit ∷ []
shape_parts (shape.Number s) = shape.Number s ∷ []
shape_parts shape.Uint3 = shape.Number Uint ∷ shape.Uint3 ∷ []
shape_parts (shape.Pointer c t) = shape_parts t ++ shape.Pointer c t ∷ []
shape_parts (shape.RuntimeArray t) = shape_parts t ++ shape.RuntimeArray t ∷ []
shape_parts (shape.Block t) = shape_parts t ++ shape.Block t ∷ []
shape_parts (shape.Function t) = shape_parts t ++ shape.Function t ∷ []

-- what has to stand before a global can be named, and the global
abbrev pub global_parts : Global → List Global
global_parts (TypeOf t) = map TypeOf (shape_parts t)
global_parts (Constant s n) = TypeOf (shape.Number s) ∷ Constant s n ∷ []
global_parts DispatchId = map TypeOf (shape_parts dispatch_pointer) ++ DispatchId ∷ []
global_parts (BufferVariable n element) =
    map TypeOf (shape_parts (block_pointer element)) ++ BufferVariable n element ∷ []

-- the globals among ids
abbrev pub symbol_globals : Symbol → List Global
symbol_globals (Of g) = g ∷ []
symbol_globals Entry = []
symbol_globals Start = []
symbol_globals (SlotVariable n) = []
symbol_globals (Result k r) = []

-- the globals that a module needs: those that are there from the start, then those that its
-- functions mention, each once, where it is first needed, behind its parts
abbrev pub needed : List Global → List (Line Symbol) → List Global
needed start functions =
    firsts same_global (flat_map global_parts
    (start ++ flat_map symbol_globals (mentions functions)))

-- the signedness of an integer type: 1 for signed
abbrev pub sign_of : Scalar → ℕ
sign_of Int = 1
sign_of Uint = 0

-- the instruction that makes a type (SPIR-V 1.5, 3, "Type-Declaration Instructions")
abbrev pub shape_line : Operand Symbol → Shape → Line Symbol
shape_line self shape.Void = line op.type_void (self ∷ [])
shape_line self shape.Bit = line op.type_bool (self ∷ [])
shape_line self (shape.Number s) = line op.type_int (self ∷ Number 32 ∷ Number (sign_of s) ∷ [])
shape_line self shape.Uint3 =
    line op.type_vector (self ∷ shape_id (shape.Number Uint) ∷ Number 3 ∷ [])
shape_line self (shape.Pointer c t) = line op.type_pointer (self ∷ Number c ∷ shape_id t ∷ [])
shape_line self (shape.RuntimeArray t) = line op.type_runtime_array (self ∷ shape_id t ∷ [])
shape_line self (shape.Block t) = line op.type_struct (self ∷ shape_id t ∷ [])
shape_line self (shape.Function t) = line op.type_function (self ∷ shape_id t ∷ [])

-- the instruction that makes a global
abbrev pub global_line : Global → Line Symbol
global_line (TypeOf t) = shape_line (shape_id t) t
global_line (Constant s n) =
    line op.constant (shape_id (shape.Number s) ∷ Id (Of (Constant s n)) ∷ Number n ∷ [])
global_line DispatchId =
    line op.variable (shape_id dispatch_pointer ∷ Id (Of DispatchId) ∷ Number enumerant.input ∷ [])
global_line (BufferVariable n element) =
    line op.variable (shape_id (block_pointer element) ∷ Id (Of (BufferVariable n element))
    ∷ Number enumerant.storage_buffer ∷ [])

-- The instructions of a function's operations.
use Rattle.std.specs.Prelude.{ℕ, List, [], ◌∷◌, ◌++◌, map, slice_index_or}
use Rattle.def_spirv.specs.Symbolic.{Operand, Id, Number, Line}
use Rattle.def_spirv.specs.Opcodes as op
use Rattle.def_spirv.specs.Enumerants as enumerant
use Rattle.def_emit.specs.Program as operation
use Rattle.def_emit.specs.Program.{Scalar, Uint, Value, Literal, Slot, Operation, Buffer, Program}
use Rattle.def_emit.specs.Symbol as shape
use Rattle.def_emit.specs.Symbol.{Constant, DispatchId, BufferVariable, Symbol, Of, SlotVariable, Result}
use Rattle.def_emit.specs.Globals.{line, shape_id}

-- the id of an integer type
abbrev pub scalar_id : Scalar → Operand Symbol
scalar_id s = shape_id (shape.Number s)

-- the type of a slot
abbrev pub slot_type : Program → ℕ → Scalar
slot_type p t = slice_index_or p.slots t Uint

-- the type of a buffer's elements
abbrev pub element_type : Program → ℕ → Scalar
element_type p b = slice_index_or (map (λ (x : Buffer). x.element) p.buffers) b Uint

-- the id of the variable of buffer b
abbrev pub buffer_id : Program → ℕ → Operand Symbol
buffer_id p b = Id (Of (BufferVariable b (element_type p b)))

-- the id of a value: that of a literal's constant, and for a slot the given id, into which it is
-- loaded
abbrev pub value_id : Value → Symbol → Operand Symbol
value_id (Literal s n) loaded = Id (Of (Constant s n))
value_id (Slot t) loaded = Id loaded

-- a slot is loaded where it is used, a literal never
abbrev pub value_lines : Program → Value → Symbol → List (Line Symbol)
value_lines p (Literal s n) loaded = []
value_lines p (Slot t) loaded =
    line op.load (scalar_id (slot_type p t) ∷ Id loaded ∷ Id (SlotVariable t) ∷ []) ∷ []

-- component c of the dispatch id into slot t
abbrev pub id_lines : ℕ → ℕ → ℕ → List (Line Symbol)
id_lines k t c =
    let vector = Id (Result k 0) in
    let component = Id (Result k 1) in
    line op.load (shape_id shape.Uint3 ∷ vector ∷ Id (Of DispatchId) ∷ [])
    ∷ line op.composite_extract (scalar_id Uint ∷ component ∷ vector ∷ Number c ∷ [])
    ∷ line op.store (Id (SlotVariable t) ∷ component ∷ [])
    ∷ []

-- The element is written where the index is below the buffer's length. The index is loaded for the
-- test, and once more in the inner block.
abbrev pub put_lines : Program → ℕ → ℕ → Value → Value → List (Line Symbol)
put_lines p k b i v =
    let tested = Result k 0 in
    let length = Id (Result k 1) in
    let within = Id (Result k 2) in
    let inner = Id (Result k 3) in
    let merge = Id (Result k 4) in
    let index = Result k 5 in
    let value = Result k 6 in
    let element = Id (Result k 7) in
    let pointer = shape_id (shape.Pointer enumerant.storage_buffer
    (shape.Number (element_type p b))) in
    value_lines p i tested
    ++ line op.array_length (scalar_id Uint ∷ length ∷ buffer_id p b ∷ Number 0 ∷ [])
    ∷ line op.unsigned_less_than (shape_id shape.Bit ∷ within ∷ value_id i tested ∷ length ∷ [])
    ∷ line op.selection_merge (merge ∷ Number enumerant.none ∷ [])
    ∷ line op.branch_conditional (within ∷ inner ∷ merge ∷ [])
    ∷ line op.label (inner ∷ [])
    ∷ value_lines p i index
    ++ value_lines p v value
    ++ line op.access_chain (pointer ∷ element ∷ buffer_id p b ∷ Id (Of (Constant Uint 0))
    ∷ value_id i index ∷ [])
    ∷ line op.store (element ∷ value_id v value ∷ [])
    ∷ line op.branch (merge ∷ [])
    ∷ line op.label (merge ∷ [])
    ∷ []

-- the instructions of operation number k
abbrev pub operation_lines : Program → ℕ × Operation → List (Line Symbol)
operation_lines p (k, operation.Id t c) = id_lines k t c
operation_lines p (k, operation.BufferPut b i v) = put_lines p k b i v
operation_lines p (k, operation.Return) = line op.return [] ∷ []

-- the variable of a slot
abbrev pub slot_line : ℕ × Scalar → Line Symbol
slot_line slot =
    line op.variable (shape_id (shape.Pointer enumerant.function (shape.Number slot.1))
    ∷ Id (SlotVariable slot.0) ∷ Number enumerant.function ∷ [])

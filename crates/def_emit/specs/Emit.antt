-- The module of a program.
use Rattle.std.specs.Prelude.{ℕ, Bool, true, false, List, [], ◌∷◌, ◌++◌, map, if◌then◌else◌}
use Rattle.std.specs.List.{flat_map, enumerate_from, list_any}
use Rattle.def_spirv.specs.Words.{Module}
use Rattle.def_spirv.specs.Symbolic.{Id, Number, Text, Line, Sections, section_lines, numbered}
use Rattle.def_spirv.specs.Opcodes as op
use Rattle.def_spirv.specs.Enumerants as enumerant
use Rattle.def_emit.specs.Program as operation
use Rattle.def_emit.specs.Program.{Scalar, Operation, Buffer, Program}
use Rattle.def_emit.specs.Symbol as shape
use Rattle.def_emit.specs.Symbol.{Global, DispatchId, BufferVariable, Symbol, Of, Entry, Start, same_scalar, same_symbol}
use Rattle.def_emit.specs.Globals.{line, shape_id, array_of, block_of, needed, global_line}
use Rattle.def_emit.specs.Body.{operation_lines, slot_line}

-- whether an operation reads the dispatch id
abbrev pub is_id : Operation → Bool
is_id (operation.Id t c) = true
is_id (operation.BufferPut b i v) = false
is_id operation.Return = false

-- the dispatch id, where some operation reads it
abbrev pub dispatch_ids : Program → List Global
dispatch_ids p = if list_any is_id p.operations then DispatchId ∷ [] else []

-- the variable of a buffer with its number
abbrev pub buffer_variable : ℕ × Buffer → Global
buffer_variable (n, b) = BufferVariable n b.element

-- the module's variables in the order of the interface
abbrev pub variables : Program → List Global
variables p = dispatch_ids p ++ map buffer_variable (enumerate_from 0 p.buffers)

-- which input the dispatch id is
abbrev pub dispatch_decorations : Global → Line Symbol
dispatch_decorations g =
    line op.decorate (Id (Of g) ∷ Number enumerant.built_in ∷ Number enumerant.global_invocation_id
    ∷ [])

-- the layout of a buffer's block, whose elements lie four bytes apart
abbrev pub layout_decorations : Scalar → List (Line Symbol)
layout_decorations element =
    line op.decorate (shape_id (array_of element) ∷ Number enumerant.array_stride ∷ Number 4 ∷ [])
    ∷ line op.decorate (shape_id (block_of element) ∷ Number enumerant.block ∷ [])
    ∷ line op.member_decorate
    (shape_id (block_of element) ∷ Number 0 ∷ Number enumerant.offset ∷ Number 0 ∷ [])
    ∷ []

-- where each buffer is bound, and at the first of its element type the layout
abbrev pub buffer_decorations : List Scalar → List (ℕ × Buffer) → List (Line Symbol)
buffer_decorations done [] = []
buffer_decorations done (buffer ∷ buffers) =
    let self = Id (Of (buffer_variable buffer)) in
    line op.decorate (self ∷ Number enumerant.descriptor_set ∷ Number buffer.1.set ∷ [])
    ∷ line op.decorate (self ∷ Number enumerant.binding ∷ Number buffer.1.binding ∷ [])
    ∷ (if list_any (same_scalar buffer.1.element) done then []
    else layout_decorations buffer.1.element)
    ++ buffer_decorations (buffer.1.element ∷ done) buffers

-- the entry point's function
abbrev pub function_lines : Program → List (Line Symbol)
function_lines p =
    line op.function (shape_id shape.Void ∷ Id Entry ∷ Number enumerant.none
    ∷ shape_id (shape.Function shape.Void) ∷ [])
    ∷ line op.label (Id Start ∷ [])
    ∷ map slot_line (enumerate_from 0 p.slots)
    ++ flat_map (operation_lines p) (enumerate_from 0 p.operations)
    ++ line op.function_end [] ∷ []

-- the name of a buffer
abbrev pub buffer_name : ℕ × Buffer → Line Symbol
buffer_name buffer = line op.name (Id (Of (buffer_variable buffer)) ∷ Text buffer.1.name ∷ [])

-- the sections of a program
abbrev pub sections : Program → Sections Symbol
sections p = record {
  capabilities = line op.capability (Number enumerant.shader ∷ []) ∷ [];
  memory_model =
      line op.memory_model (Number enumerant.logical ∷ Number enumerant.glsl450 ∷ []) ∷ [];
  entry_points =
      line op.entry_point (Number enumerant.gl_compute ∷ Id Entry ∷ Text p.entry
      ∷ map (λ g. Id (Of g)) (variables p)) ∷ [];
  execution_modes =
      line op.execution_mode (Id Entry ∷ Number enumerant.local_size ∷ Number p.threads.0
      ∷ Number p.threads.1 ∷ Number p.threads.2 ∷ []) ∷ [];
  names = line op.name (Id Entry ∷ Text p.entry ∷ [])
      ∷ map buffer_name (enumerate_from 0 p.buffers);
  decorations =
      map dispatch_decorations (dispatch_ids p)
      ++ buffer_decorations [] (enumerate_from 0 p.buffers);
  globals = map global_line (needed (variables p) (function_lines p));
  functions = function_lines p;
}

-- the module that a program is
abbrev pub emitted : Program → Module
emitted p = numbered same_symbol (section_lines (sections p))

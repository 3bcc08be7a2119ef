-- The operations of a module of the source.
use Rattle.std.specs.Prelude.{[], ◌∷◌}
use Rattle.def_slang.specs.BufferWrite.{BufferWrite}
use Rattle.def_emit.specs.Program.{Program, Int, Uint, Literal, Slot, Id, BufferPut, Return}

-- The index `id.x` makes slot 0, which the dispatch id is read into; then the number is put into
-- the element, and the function returns.
abbrev pub program_of : BufferWrite → Program
program_of w = record {
  entry = w.entry;
  threads = w.threads;
  buffers = record { name = w.buffer; set = 0; binding = 0; element = Int } ∷ [];
  slots = Uint ∷ [];
  operations = Id 0 0 ∷ BufferPut 0 (Slot 0) (Literal Int w.value) ∷ Return ∷ [];
}

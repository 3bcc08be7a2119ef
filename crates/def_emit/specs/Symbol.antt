-- The ids of a module as symbols, and when two are the same.
use Rattle.std.specs.Prelude.{ℕ, Bool, true, false, ◌&&◌, nat_eq}
use Rattle.def_emit.specs.Program.{Scalar, Int, Uint}

-- a type of the module. A block is a struct whose one member is a runtime array; functions take
-- nothing.
pub data Shape : Type 0 where
  Void : Shape
  Bit : Shape
  Number : Scalar → Shape
  Uint3 : Shape
  Pointer : ℕ → Shape → Shape
  RuntimeArray : Shape → Shape
  Block : Shape → Shape
  Function : Shape → Shape

-- what stands in the section of types, constants and variables: a type, a constant, the dispatch
-- id, a buffer by its number
pub data Global : Type 0 where
  TypeOf : Shape → Global
  Constant : Scalar → ℕ → Global
  DispatchId : Global
  BufferVariable : ℕ → Scalar → Global

-- an id: of the section above, the entry point, the first label of its function, the variable of a
-- slot by the slot's number, or result number r of operation number k
pub data Symbol : Type 0 where
  Of : Global → Symbol
  Entry : Symbol
  Start : Symbol
  SlotVariable : ℕ → Symbol
  Result : ℕ → ℕ → Symbol

-- whether two integer types are the same
abbrev pub same_scalar : Scalar → Scalar → Bool
same_scalar Int Int = true
same_scalar Uint Uint = true
same_scalar _ _ = false

-- whether two types are the same
abbrev pub same_shape : Shape → Shape → Bool
same_shape Void Void = true
same_shape Bit Bit = true
same_shape (Number a) (Number b) = same_scalar a b
same_shape Uint3 Uint3 = true
same_shape (Pointer c a) (Pointer d b) = nat_eq c d && same_shape a b
same_shape (RuntimeArray a) (RuntimeArray b) = same_shape a b
same_shape (Block a) (Block b) = same_shape a b
same_shape (Function a) (Function b) = same_shape a b
same_shape _ _ = false

-- whether two globals are the same; a buffer's number tells it
abbrev pub same_global : Global → Global → Bool
same_global (TypeOf a) (TypeOf b) = same_shape a b
same_global (Constant s m) (Constant t n) = same_scalar s t && nat_eq m n
same_global DispatchId DispatchId = true
same_global (BufferVariable m s) (BufferVariable n t) = nat_eq m n
same_global _ _ = false

-- whether two ids are the same
abbrev pub same_symbol : Symbol → Symbol → Bool
same_symbol (Of a) (Of b) = same_global a b
same_symbol Entry Entry = true
same_symbol Start Start = true
same_symbol (SlotVariable m) (SlotVariable n) = nat_eq m n
same_symbol (Result j q) (Result k r) = nat_eq j k && nat_eq q r
same_symbol _ _ = false

-- Programs of operations, between the source and the instruction lists.
use Rattle.std.specs.Prelude.{ℕ, List}

-- an integer of 32 bits
pub data Scalar : Type 0 where
  Int : Scalar
  Uint : Scalar

-- what an operation reads: a literal of a type, or a slot by its number
pub data Value : Type 0 where
  Literal : Scalar → ℕ → Value
  Slot : ℕ → Value

-- `Id t c` puts component c of the dispatch id into slot t. `BufferPut b i v` puts v into element i
-- of buffer b.
pub data Operation : Type 0 where
  Id : ℕ → ℕ → Operation
  BufferPut : ℕ → Value → Value → Operation
  Return : Operation

-- a buffer that can be written: its name, where it is bound, and the type of its elements
pub record Buffer : Type 0 where
  pub name : List ℕ
  pub set : ℕ
  pub binding : ℕ
  pub element : Scalar

-- one entry point: its name, the threads of a group, the buffers in binding order, the types of its
-- slots, its operations
pub record Program : Type 0 where
  pub entry : List ℕ
  pub threads : ℕ × ℕ × ℕ
  pub buffers : List Buffer
  pub slots : List Scalar
  pub operations : List Operation

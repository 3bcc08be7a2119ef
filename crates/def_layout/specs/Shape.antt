-- Of what the elements of a storage buffer are made.
use Rattle.std.specs.Prelude.{ℕ, ◌+◌, ◌<◌, ⊤}
use Rattle.def_layout.specs.declared.scalar.Scalar.{Scalar}
use Rattle.def_layout.specs.declared.scalar.Scalar.TheVariants.{Int, Uint}

-- how many bytes a number has
abbrev pub bytes : Scalar → ℕ
bytes Int = 4
bytes Uint = 4

-- the most bytes that a number has
abbrev pub most_bytes : ℕ
most_bytes = 4

-- A shape is a number, or a struct with members in order.
mutual
  pub data Shape : Type 0 where
    Single : Scalar → Shape
    Struct : Shapes → Shape

  pub data Shapes : Type 0 where
    NoShapes : Shapes
    MoreShapes : Shape → Shapes → Shapes

abbrev mutual
  -- how many numbers a shape has
  pub leaf_count : Shape → ℕ
  leaf_count (Single scalar) = 1
  leaf_count (Struct members) = leaf_counts members

  -- how many numbers members have together
  pub leaf_counts : Shapes → ℕ
  leaf_counts NoShapes = 0
  leaf_counts (MoreShapes first more) = leaf_count first + leaf_counts more

abbrev mutual
  -- each struct in a shape has a number in it
  pub HasLeaves : Shape → Type 0
  HasLeaves (Single scalar) = ⊤
  HasLeaves (Struct members) = (0 < leaf_counts members) × HaveLeaves members

  pub HaveLeaves : Shapes → Type 0
  HaveLeaves NoShapes = ⊤
  HaveLeaves (MoreShapes first more) = HasLeaves first × HaveLeaves more

-- The layout std430 of numbers and structs (OpenGL 4.6, 7.6.2.2, "Standard Uniform Block Layout";
-- Vulkan 1.2, 15.6.4, "Offset and Stride Assignment").
use Rattle.std.specs.Prelude.{◌≡◌, ℕ, ◌+◌, ◌*◌, ◌≤◌, List, [], ◌∷◌, ◌++◌, map}
use Prim.Native.Nat.{max}
use Rattle.def_layout.specs.declared.laid.Laid.{Laid}
use Rattle.def_layout.specs.declared.laid.Leaf.{Leaf}
use Rattle.def_layout.specs.Shape.{bytes, Shape, Single, Struct, Shapes, NoShapes, MoreShapes}

-- a number is so many times a unit
pub record IsMultiple (unit n : ℕ) : Type 0 where
  pub count : ℕ
  pub is : n ≡ count * unit

-- the first multiple of a unit that is not below a number
pub record IsNextMultiple (unit from to : ℕ) : Type 0 where
  pub multiple : IsMultiple unit to
  pub reached : from ≤ to
  pub first : (other : ℕ) → IsMultiple unit other → from ≤ other → to ≤ other

abbrev mutual
  -- the alignment of a number is its size; that of a struct is the greatest of its members'
  pub alignment : Shape → ℕ
  alignment (Single scalar) = bytes scalar
  alignment (Struct members) = greatest_alignment members

  -- the greatest alignment of members; 1 where there are none
  pub greatest_alignment : Shapes → ℕ
  greatest_alignment NoShapes = 1
  greatest_alignment (MoreShapes first more) = max (alignment first) (greatest_alignment more)

-- a number of a member, as a number of the struct in which this member has a number and an offset
abbrev pub in_member : ℕ → ℕ → Leaf → Leaf
in_member number offset leaf =
    record { path = number ∷ leaf.path; offset = offset + leaf.offset; scalar = leaf.scalar }

abbrev mutual
  -- a shape takes so many bytes, with these numbers in it: a number takes its own, and a struct
  -- those of its members, up to the next multiple of its alignment
  pub Takes : Shape → ℕ → List Leaf → Type 0
  Takes (Single scalar) size leaves =
      (size ≡ bytes scalar) × (leaves ≡ record { path = []; offset = 0; scalar = scalar } ∷ [])
  Takes (Struct members) size leaves = (end : ℕ)
      × Follow members 0 0 end leaves × IsNextMultiple (greatest_alignment members) end size

  -- Members follow each other, with these numbers in them: the first, of this number, stands at the
  -- next multiple of its alignment from a byte on, each other one likewise from the end of the one
  -- before it, and the last ends at a byte.
  pub Follow : Shapes → (number from end : ℕ) → List Leaf → Type 0
  Follow NoShapes number from end leaves = (end ≡ from) × (leaves ≡ [])
  Follow (MoreShapes first more) number from end leaves =
      (offset size : ℕ) × (inner behind : List Leaf)
      × IsNextMultiple (alignment first) from offset
      × Takes first size inner
      × Follow more (number + 1) (offset + size) end behind
      × (leaves ≡ map (in_member number offset) inner ++ behind)

-- an array of a shape is laid out so: each element has the shape's alignment and size, with these
-- numbers in it, and the next one begins at the next multiple of the alignment
pub record IsLaidOut (shape : Shape) (laid : Laid) : Type 0 where
  pub align : laid.align ≡ alignment shape
  pub takes : Takes shape laid.size laid.leaves
  pub stride : IsNextMultiple laid.align laid.size laid.stride

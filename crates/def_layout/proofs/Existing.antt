-- Each shape has a layout.
use Rattle.std.proofs.Common.{ℕ, ◌+◌, ◌<◌, List, ◌++◌, map, refl, arith}
use Rattle.def_layout.specs.declared.scalar.Scalar.{Scalar}
use Rattle.def_layout.specs.declared.scalar.Scalar.TheVariants.{Int, Uint}
use Rattle.def_layout.specs.Shape.{bytes, Shape, Single, Struct, Shapes, NoShapes, MoreShapes}
use Rattle.def_layout.specs.declared.laid.Laid.{Laid}
use Rattle.def_layout.specs.declared.laid.Leaf.{Leaf}
use Rattle.def_layout.specs.Std430.{in_member, Takes, Follow, IsLaidOut, alignment, greatest_alignment}
use Rattle.def_layout.proofs.Multiples.{a_next}

-- a number has bytes
pub some_bytes : (scalar : Scalar) → 0 < bytes scalar
some_bytes Int = omega arith
some_bytes Uint = omega arith

-- members have an alignment
pub some_alignments : (members : Shapes) → 0 < greatest_alignment members
some_alignments NoShapes = omega arith
some_alignments (MoreShapes first more) = let some = some_alignments more in omega arith

-- a shape has an alignment
pub some_alignment : (shape : Shape) → 0 < alignment shape
some_alignment (Single scalar) = some_bytes scalar
some_alignment (Struct members) = some_alignments members

mutual
  some_size : (shape : Shape) → (size : ℕ) × (leaves : List Leaf) × Takes shape size leaves
  some_size (Single scalar) = (bytes scalar, _, (refl, refl))
  some_size (Struct members) =
      let f = some_end members 0 0 in
      let n = a_next (greatest_alignment members) f.0 (some_alignments members) in
      (n.0, f.1, (f.0, f.2, n.1))

  some_end : (members : Shapes) (number from : ℕ) → (end : ℕ) × (leaves : List Leaf) × Follow members number from end leaves
  some_end NoShapes number from = (from, _, (refl, refl))
  some_end (MoreShapes first more) number from =
      let o = a_next (alignment first) from (some_alignment first) in
      let t = some_size first in
      let f = some_end more (number + 1) (o.0 + t.0) in
      (f.0, map (in_member number o.0) t.1 ++ f.1, (o.0, t.0, t.1, f.1, o.1, t.2, f.2, refl))

pub a_layout : (shape : Shape) → (laid : Laid) × IsLaidOut shape laid
a_layout shape =
    let t = some_size shape in
    let n = a_next (alignment shape) t.0 (some_alignment shape) in (
      record { size = t.0; align = alignment shape; stride = n.0; leaves = t.1 },
      record { align = refl; takes = t.2; stride = n.1 },
    )

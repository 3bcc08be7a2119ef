-- Numbers lie inside the bytes of their shape.
use Rattle.std.proofs.Common.{ℕ, ◌+◌, ◌≤◌, List, [], subst, sym, arith}
use Rattle.std.specs.List.{All}
use Rattle.std.proofs.lemmas.List.Elements.{All-nil, All-cons, All-append, All-map, All-weaker}
use Rattle.def_layout.specs.Laws.{end_of}
use Rattle.def_layout.specs.Shape.{Shape, Single, Struct, Shapes, NoShapes, MoreShapes}
use Rattle.def_layout.specs.declared.laid.Laid.{Laid}
use Rattle.def_layout.specs.declared.laid.Leaf.{Leaf}
use Rattle.def_layout.specs.Std430.{in_member, Takes, Follow, IsLaidOut}

-- a number lies between two bytes
abbrev pub LiesBetween : ℕ → ℕ → Leaf → Type 0
LiesBetween from end leaf = (from ≤ leaf.offset) × (end_of leaf ≤ end)

mutual
  pub inside : (shape : Shape) (size : ℕ) (leaves : List Leaf) → Takes shape size leaves → All (λ leaf. end_of leaf ≤ size) leaves
  inside (Single scalar) size leaves (bytes, is) =
      subst (λ l. All (λ leaf. end_of leaf ≤ size) l) (sym is) (All-cons (λ leaf. end_of leaf ≤ size) _ [] (omega arith) (All-nil _))
  inside (Struct members) size leaves (end, follow, next) =
      let reached = next.reached in
      All-weaker (LiesBetween 0 end) (λ leaf. end_of leaf ≤ size) (λ leaf lies. omega arith) leaves (between members 0 0 end leaves follow).1

  pub between : (members : Shapes) (number from end : ℕ) (leaves : List Leaf) → Follow members number from end leaves
      → (from ≤ end) × All (LiesBetween from end) leaves
  between NoShapes number from end leaves (at, is) =
      (omega arith, subst (λ l. All (LiesBetween from end) l) (sym is) (All-nil _))
  between (MoreShapes first more) number from end leaves (offset, size, inner, behind, next, takes, follow, is) =
      let reached = next.reached in
      let rest = between more (number + 1) (offset + size) end behind follow in
      let order = rest.0 in
      let own = inside first size inner takes in
      let front = All-map (LiesBetween from end) (in_member number offset) inner
      (All-weaker (λ leaf. end_of leaf ≤ size) (λ leaf. LiesBetween from end (in_member number offset leaf)) (λ leaf lies. (omega arith, omega arith)) inner own) in
      let back = All-weaker (LiesBetween (offset + size) end) (LiesBetween from end) (λ leaf lies. (omega arith, lies.1)) behind rest.1 in
      (omega arith, subst (λ l. All (LiesBetween from end) l) (sym is) (All-append (LiesBetween from end) _ behind front back))

pub all_inside : (shape : Shape) (laid : Laid) → IsLaidOut shape laid → All (λ leaf. end_of leaf ≤ laid.size) laid.leaves
all_inside shape laid is = inside shape laid.size laid.leaves is.takes

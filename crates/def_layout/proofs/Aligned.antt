-- Numbers begin at multiples of their sizes.
use Rattle.std.proofs.Common.{◌≡◌, ℕ, ◌+◌, ◌*◌, ◌≤◌, List, [], map, subst, sym, refl, arith, ◌⊎◌, inl, inr}
use Prim.Native.Nat.{max}
use Rattle.std.specs.List.{All}
use Rattle.std.proofs.Math.Nat.{mul-one}
use Rattle.std.proofs.lemmas.Bool.{cases_lt}
use Rattle.std.proofs.lemmas.List.Elements.{All-nil, All-cons, All-append, All-map, All-weaker}
use Rattle.def_layout.specs.declared.scalar.Scalar.{Scalar}
use Rattle.def_layout.specs.declared.scalar.Scalar.TheVariants.{Int, Uint}
use Rattle.def_layout.specs.Shape.{bytes, most_bytes, Shape, Single, Struct, Shapes, NoShapes, MoreShapes}
use Rattle.def_layout.specs.declared.laid.Laid.{Laid}
use Rattle.def_layout.specs.declared.laid.Leaf.{Leaf}
use Rattle.def_layout.specs.Std430.{IsMultiple, in_member, Takes, Follow, IsLaidOut, alignment, greatest_alignment}
use Rattle.def_layout.proofs.Existing.{some_bytes}
use Rattle.def_layout.proofs.Multiples.{multiple_sum, multiple_through, multiple_times}

-- the larger of two sizes of numbers is a multiple of the other
sizes_chain : (one other : Scalar) → bytes one ≤ bytes other → IsMultiple (bytes one) (bytes other)
sizes_chain Int Int le = record { count = 1; is = refl }
sizes_chain Int Uint le = record { count = 1; is = refl }
sizes_chain Uint Int le = record { count = 1; is = refl }
sizes_chain Uint Uint le = record { count = 1; is = refl }

-- an alignment is 1, or the size of a number
abbrev IsAlignment : ℕ → Type 0
IsAlignment n = (n ≡ 1) ⊎ ((scalar : Scalar) × (n ≡ bytes scalar))

-- a number is a multiple of 1
of_one : (n : ℕ) → IsMultiple 1 n
of_one n = record { count = n; is = sym (mul-one n) }

-- the larger of two alignments is a multiple of the other
alignments_chain : (one other : ℕ) → IsAlignment one → IsAlignment other → one ≤ other → IsMultiple one other
alignments_chain one other (inl is) b le = subst (λ n. IsMultiple n other) (sym is) (of_one other)
alignments_chain one other (inr (scalar, is)) (inl single) le = absurd (let some = some_bytes scalar in at_least_two scalar one other is single le)
  where
    at_least_two : (scalar : Scalar) (one other : ℕ) → one ≡ bytes scalar → other ≡ 1 → one ≤ other → ⊥
    at_least_two Int one other is single le = omega arith
    at_least_two Uint one other is single le = omega arith
alignments_chain one other (inr (scalar, is)) (inr (second, same)) le =
    subst (λ n. IsMultiple n other) (sym is) (subst (λ n. IsMultiple (bytes scalar) n) (sym same) (sizes_chain scalar second (omega arith)))

-- the greater of two alignments is one
alignment_of_max : (one other : ℕ) → IsAlignment one → IsAlignment other → IsAlignment (max one other)
alignment_of_max one other a b =
    elim (cases_lt one other) [
      | inl lt ↦ (let e : max one other ≡ other = omega arith in subst IsAlignment (sym e) b)
      | inr le ↦ (let e : max one other ≡ one = omega arith in subst IsAlignment (sym e) a)
    ]

mutual
  -- the alignment of a shape is one
  is_alignment : (shape : Shape) → IsAlignment (alignment shape)
  is_alignment (Single scalar) = inr (scalar, refl)
  is_alignment (Struct members) = are_alignments members

  are_alignments : (members : Shapes) → IsAlignment (greatest_alignment members)
  are_alignments NoShapes = inl refl
  are_alignments (MoreShapes first more) = alignment_of_max (alignment first) (greatest_alignment more) (is_alignment first) (are_alignments more)

-- the greatest alignment is a multiple of the first member's
pub over_first : (first : Shape) (more : Shapes) → IsMultiple (alignment first) (greatest_alignment (MoreShapes first more))
over_first first more =
    alignments_chain (alignment first) (greatest_alignment (MoreShapes first more)) (is_alignment first) (are_alignments (MoreShapes first more)) (omega arith)

-- the greatest alignment is a multiple of that of the other members
pub over_more : (first : Shape) (more : Shapes) → IsMultiple (greatest_alignment more) (greatest_alignment (MoreShapes first more))
over_more first more =
    alignments_chain (greatest_alignment more) (greatest_alignment (MoreShapes first more)) (are_alignments more) (are_alignments (MoreShapes first more)) (omega arith)

-- the most bytes of a number are a multiple of each alignment
over_alignment : (n : ℕ) → IsAlignment n → IsMultiple n most_bytes
over_alignment n (inl is) = subst (λ k. IsMultiple k most_bytes) (sym is) (of_one most_bytes)
over_alignment n (inr (scalar, is)) = subst (λ k. IsMultiple k most_bytes) (sym is) (over_size scalar)
  where
    over_size : (scalar : Scalar) → IsMultiple (bytes scalar) most_bytes
    over_size Int = record { count = 1; is = refl }
    over_size Uint = record { count = 1; is = refl }

pub most_over_shape : (shape : Shape) → IsMultiple (alignment shape) most_bytes
most_over_shape shape = over_alignment (alignment shape) (is_alignment shape)

pub most_over_members : (members : Shapes) → IsMultiple (greatest_alignment members) most_bytes
most_over_members members = over_alignment (greatest_alignment members) (are_alignments members)

-- a number begins at a multiple of its size, of which another number is a multiple too
record IsAligned (n : ℕ) (leaf : Leaf) : Type 0 where
  offset : IsMultiple (bytes leaf.scalar) leaf.offset
  unit : IsMultiple (bytes leaf.scalar) n

mutual
  aligned : (shape : Shape) (size : ℕ) (leaves : List Leaf) → Takes shape size leaves → All (IsAligned (alignment shape)) leaves
  aligned (Single scalar) size leaves (is_bytes, is) =
      subst (λ l. All (IsAligned (bytes scalar)) l) (sym is)
      (All-cons (IsAligned (bytes scalar)) _ [] (record { offset = record { count = 0; is = omega arith }; unit = record { count = 1; is = omega arith } }) (All-nil _))
  aligned (Struct members) size leaves (end, follow, next) = members_aligned members 0 0 end leaves follow

  members_aligned : (members : Shapes) (number from end : ℕ) (leaves : List Leaf) → Follow members number from end leaves
      → All (IsAligned (greatest_alignment members)) leaves
  members_aligned NoShapes number from end leaves (at, is) = subst (λ l. All (IsAligned 1) l) (sym is) (All-nil _)
  members_aligned (MoreShapes first more) number from end leaves (offset, size, inner, behind, next, takes, follow, is) =
      let unit = greatest_alignment (MoreShapes first more) in
      let own = aligned first size inner takes in
      let rest = members_aligned more (number + 1) (offset + size) end behind follow in
      let front = All-map (IsAligned unit) (in_member number offset) inner
      (All-weaker (IsAligned (alignment first)) (λ leaf. IsAligned unit (in_member number offset leaf))
      (λ leaf h. record {
        offset = multiple_sum (multiple_through h.unit next.multiple) h.offset;
        unit = multiple_through h.unit (over_first first more);
      }) inner own) in
      let back = All-weaker (IsAligned (greatest_alignment more)) (IsAligned unit)
      (λ leaf h. record { offset = h.offset; unit = multiple_through h.unit (over_more first more) }) behind rest in
      subst (λ l. All (IsAligned unit) l) (sym is) (All-append (IsAligned unit) (map (in_member number offset) inner) behind front back)

pub all_aligned : (shape : Shape) (laid : Laid) → IsLaidOut shape laid
    → (index : ℕ) → All (λ leaf. IsMultiple (bytes leaf.scalar) (index * laid.stride + leaf.offset)) laid.leaves
all_aligned shape laid is index =
    let stride : IsMultiple (alignment shape) laid.stride = subst (λ n. IsMultiple n laid.stride) is.align is.stride.multiple in
    All-weaker (IsAligned (alignment shape)) (λ leaf. IsMultiple (bytes leaf.scalar) (index * laid.stride + leaf.offset))
    (λ leaf h. multiple_sum (multiple_times index (multiple_through h.unit stride)) h.offset)
    laid.leaves (aligned shape laid.size laid.leaves is.takes)

-- A shape takes no more bytes than its numbers and its alignment ask.
use Rattle.std.proofs.Common.{◌≡◌, ℕ, ◌+◌, ◌-◌, ◌≤◌, List, [], ◌∷◌, ◌++◌, map, subst, sym, arith}
use Rattle.std.specs.List.{All}
use Rattle.std.proofs.lemmas.List.Elements.{All-nil, All-cons, All-head, All-tail, All-weaker}
use Rattle.def_layout.specs.Laws.{end_of, HasLeastStride}
use Rattle.def_layout.specs.Shape.{Shape, Single, Struct, Shapes, NoShapes, MoreShapes}
use Rattle.def_layout.specs.declared.laid.Laid.{Laid}
use Rattle.def_layout.specs.declared.laid.Leaf.{Leaf}
use Rattle.def_layout.specs.Std430.{IsMultiple, in_member, Takes, Follow, IsLaidOut, alignment, greatest_alignment}
use Rattle.def_layout.proofs.Aligned.{over_first, over_more}
use Rattle.def_layout.proofs.Inside.{all_inside}
use Rattle.def_layout.proofs.Multiples.{multiple_difference, multiple_through, next_of_itself, same_next}

-- what holds of the elements of a sum holds of those of its parts
front_of_sum : {X : Type 0} (P : X → Type 0) (xs ys : List X) → All P (xs ++ ys) → All P xs
front_of_sum P [] ys all = All-nil P
front_of_sum P (x ∷ xs) ys all = All-cons P x xs (All-head P x (xs ++ ys) all) (front_of_sum P xs ys (All-tail P x (xs ++ ys) all))

back_of_sum : {X : Type 0} (P : X → Type 0) (xs ys : List X) → All P (xs ++ ys) → All P ys
back_of_sum P [] ys all = all
back_of_sum P (x ∷ xs) ys all = back_of_sum P xs ys (All-tail P x (xs ++ ys) all)

-- what holds of a list's images holds of the list through them
pub through_images : {X Y : Type 0} (P : X → Type 0) (f : Y → X) (ys : List Y) → All P (map f ys) → All (λ y. P (f y)) ys
through_images P f [] all = All-nil (λ y. P (f y))
through_images P f (y ∷ ys) all =
    All-cons (λ y. P (f y)) y ys (All-head P (f y) (map f ys) all) (through_images P f ys (All-tail P (f y) (map f ys) all))

-- a number ends within bytes
abbrev EndsWithin : ℕ → Leaf → Type 0
EndsWithin n leaf = end_of leaf ≤ n

mutual
  no_more : (shape : Shape) (size n : ℕ) (leaves : List Leaf) → Takes shape size leaves → IsMultiple (alignment shape) n
      → All (EndsWithin n) leaves → size ≤ n
  no_more (Single scalar) size n leaves (is_bytes, is) multiple all =
      let h = All-head (EndsWithin n) (record { path = []; offset = 0; scalar = scalar }) [] (subst (λ l. All (EndsWithin n) l) is all) in
      omega arith
  no_more (Struct members) size n leaves (end, follow, next) multiple all =
      next.first n multiple (members_no_more members 0 0 end n leaves follow multiple all (omega arith))

  members_no_more : (members : Shapes) (number from end n : ℕ) (leaves : List Leaf) → Follow members number from end leaves
      → IsMultiple (greatest_alignment members) n → All (EndsWithin n) leaves → from ≤ n → end ≤ n
  members_no_more NoShapes number from end n leaves (at, is) multiple all below = omega arith
  members_no_more (MoreShapes first more) number from end n leaves (offset, size, inner, behind, next, takes, follow, is) multiple all below =
      let own : IsMultiple (alignment first) n = multiple_through (over_first first more) multiple in
      let starts : offset ≤ n = next.first n own below in
      let both = subst (λ l. All (EndsWithin n) l) is all in
      let front = through_images (EndsWithin n) (in_member number offset) inner (front_of_sum (EndsWithin n) (map (in_member number offset) inner) behind both) in
      let shifted = All-weaker (λ leaf. EndsWithin n (in_member number offset leaf)) (EndsWithin (n - offset)) (λ leaf h. omega arith) inner front in
      let fits : size ≤ n - offset = no_more first size (n - offset) inner takes (multiple_difference next.multiple own starts) shifted in
      members_no_more more (number + 1) (offset + size) end n behind follow (multiple_through (over_more first more) multiple)
      (back_of_sum (EndsWithin n) (map (in_member number offset) inner) behind both) (omega arith)

-- the size is a multiple of the alignment
whole : (shape : Shape) (size : ℕ) (leaves : List Leaf) → Takes shape size leaves → IsMultiple (alignment shape) size
whole (Single scalar) size leaves (is_bytes, is) = record { count = 1; is = omega arith }
whole (Struct members) size leaves (end, follow, next) = next.multiple

pub least_stride : (shape : Shape) (laid : Laid) → IsLaidOut shape laid → HasLeastStride laid
least_stride shape laid is =
    let size = whole shape laid.size laid.leaves is.takes in
    let own : IsMultiple laid.align laid.size = subst (λ n. IsMultiple n laid.size) (sym is.align) size in
    let same : laid.stride ≡ laid.size = same_next is.stride (next_of_itself laid.align laid.size own) in
    record {
      multiple = is.stride.multiple;
      holds = All-weaker (λ leaf. end_of leaf ≤ laid.size) (λ leaf. end_of leaf ≤ laid.stride) (λ leaf h. omega arith) laid.leaves (all_inside shape laid is);
      least = λ n multiple all.
          (let few = no_more shape laid.size n laid.leaves is.takes (subst (λ k. IsMultiple k n) is.align multiple) all in omega arith);
      is_size = same;
    }

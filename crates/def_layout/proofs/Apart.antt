-- Numbers stand apart.
use Rattle.std.proofs.Common.{ℕ, ◌+◌, ◌≤◌, suc, List, [], ◌∷◌, ◌++◌, map, subst, sym, arith}
use Rattle.std.specs.List.{All, AllPairs}
use Rattle.std.proofs.lemmas.List.Elements.{All-append, All-map, All-weaker, All-head, All-tail}
use Rattle.std.proofs.lemmas.List.Kept.{AllPairs-cons}
use Rattle.def_layout.specs.Laws.{end_of}
use Rattle.def_layout.specs.Shape.{Shape, Single, Struct, Shapes, NoShapes, MoreShapes}
use Rattle.def_layout.specs.declared.laid.Laid.{Laid}
use Rattle.def_layout.specs.declared.laid.Leaf.{Leaf}
use Rattle.def_layout.specs.Std430.{in_member, Takes, Follow, IsLaidOut}
use Rattle.def_layout.proofs.Inside.{LiesBetween, inside, between}

-- no pair stands in the empty list
pairs_of_none : {X : Type 0} (R : X → X → Type 0) → AllPairs R []
pairs_of_none R i j d before within = absurd (omega arith)

-- what holds of all pairs holds of the first element and each later one, and of all pairs of these
pairs_of_more : {X : Type 0} (R : X → X → Type 0) (x : X) (xs : List X) → AllPairs R (x ∷ xs) → All (R x) xs × AllPairs R xs
pairs_of_more R x xs all =
    ((λ k d within. all 0 (suc k) d (omega arith) (omega arith)), (λ i j d before within. all (suc i) (suc j) d (omega arith) (omega arith)))

-- what holds of the pairs of two lists, and across them, holds of the pairs of their sum
pairs_of_sum : {X : Type 0} (R : X → X → Type 0) (xs ys : List X) → AllPairs R xs → AllPairs R ys → All (λ x. All (R x) ys) xs
    → AllPairs R (xs ++ ys)
pairs_of_sum R [] ys own others across = others
pairs_of_sum R (x ∷ xs) ys own others across =
    let p = pairs_of_more R x xs own in
    AllPairs-cons R x (xs ++ ys) (All-append (R x) xs ys p.0 (All-head (λ y. All (R y) ys) x xs across))
    (pairs_of_sum R xs ys p.1 others (All-tail (λ y. All (R y) ys) x xs across))

-- what holds of pairs of images holds of the pairs of a list's images
pairs_of_images : {X Y : Type 0} (R : X → X → Type 0) (f : Y → X) (ys : List Y) → AllPairs (λ a b. R (f a) (f b)) ys → AllPairs R (map f ys)
pairs_of_images R f [] own = pairs_of_none R
pairs_of_images R f (y ∷ ys) own =
    let p = pairs_of_more (λ a b. R (f a) (f b)) y ys own in
    AllPairs-cons R (f y) (map f ys) (All-map (R (f y)) f ys p.0) (pairs_of_images R f ys p.1)

-- one number ends before another begins
abbrev pub EndsBefore : Leaf → Leaf → Type 0
EndsBefore one later = end_of one ≤ later.offset

mutual
  apart : (shape : Shape) (size : ℕ) (leaves : List Leaf) → Takes shape size leaves → AllPairs EndsBefore leaves
  apart (Single scalar) size leaves (bytes, is) =
      subst (λ l. AllPairs EndsBefore l) (sym is) (λ i j d before within. absurd (omega arith))
  apart (Struct members) size leaves (end, follow, next) = members_apart members 0 0 end leaves follow

  members_apart : (members : Shapes) (number from end : ℕ) (leaves : List Leaf) → Follow members number from end leaves → AllPairs EndsBefore leaves
  members_apart NoShapes number from end leaves (at, is) = subst (λ l. AllPairs EndsBefore l) (sym is) (pairs_of_none EndsBefore)
  members_apart (MoreShapes first more) number from end leaves (offset, size, inner, behind, next, takes, follow, is) =
      let own = apart first size inner takes in
      let lies = inside first size inner takes in
      let rest = (between more (number + 1) (offset + size) end behind follow).1 in
      let front = pairs_of_images EndsBefore (in_member number offset) inner
      (λ i j d before within. (let h = own i j d before within in omega arith)) in
      let across = All-map (λ one. All (EndsBefore one) behind) (in_member number offset) inner
      (All-weaker (λ leaf. end_of leaf ≤ size) (λ leaf. All (EndsBefore (in_member number offset leaf)) behind)
      (λ leaf low. All-weaker (LiesBetween (offset + size) end) (EndsBefore (in_member number offset leaf)) (λ later high. omega arith) behind rest)
      inner lies) in
      subst (λ l. AllPairs EndsBefore l) (sym is)
      (pairs_of_sum EndsBefore (map (in_member number offset) inner) behind front (members_apart more (number + 1) (offset + size) end behind follow) across)

pub all_apart : (shape : Shape) (laid : Laid) → IsLaidOut shape laid → AllPairs (λ one later. end_of one ≤ later.offset) laid.leaves
all_apart shape laid is = apart shape laid.size laid.leaves is.takes

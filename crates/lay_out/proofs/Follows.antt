-- What the fields of a struct take that are laid out so far.
use Rattle.std.proofs.Common.{◌≡◌, ℕ, ◌+◌, ◌*◌, ◌<◌, ◌≤◌, zero, suc, List, [], ◌∷◌, ◌++◌, length, map, drop, get_or, refl, sym, ap, ◌∙◌, subst, arith, append_assoc, length-append, add-one}
use Prim.Native.Nat.{max}
use Rattle.std.specs.List.{All}
use Rattle.std.proofs.Math.Nat.{le-mul_of_pos_right, mul_comm}
use Rattle.std.proofs.Math.Seq.{drop-cons}
use Rattle.std.proofs.lemmas.List.Elements.{All-weaker}
use Rattle.std.proofs.lemmas.List.{append-nil, drop_all, length-map}
use Rattle.def_layout.specs.Laws.{end_of}
use Rattle.def_layout.specs.Shape.{HasLeaves, HaveLeaves, Shape, Single, Struct, leaf_count, leaf_counts, most_bytes}
use Rattle.def_layout.specs.Std430.{Follow, IsMultiple, IsNextMultiple, alignment, greatest_alignment, in_member}
use Rattle.def_layout.specs.declared.laid.Leaf.{Leaf}
use Rattle.def_layout.proofs.Aligned.{most_over_shape, most_over_members}
use Rattle.def_layout.proofs.Existing.{some_alignments}
use Rattle.def_layout.proofs.Inside.{inside}
use Rattle.def_layout.proofs.Least.{through_images}
use Rattle.def_layout.proofs.Multiples.{multiple_through}
use Rattle.lay_out.specs.Takes.{IsPart}
use Rattle.lay_out.specs.View.{leaf_of, shape_in, shapes_in}
use Rattle.lay_out.specs.declared.shape.Shape as program
use Rattle.lay_out.specs.declared.std430.Part.{Part}

-- the fields before one number end at a byte, have this greatest alignment and these numbers in them
pub record IsSoFar (fields : List program.Shape) (number end align : ℕ) (leaves : List Leaf) : Type 0 where
  -- with the other fields behind them they are all fields
  pub follow : (last : ℕ) (behind : List Leaf) → Follow (shapes_in (drop number fields)) number end last behind
      → Follow (shapes_in fields) 0 0 last (leaves ++ behind)
  pub greatest : max align (greatest_alignment (shapes_in (drop number fields))) ≡ greatest_alignment (shapes_in fields)
  pub some : 0 < align
  pub low : align ≤ most_bytes
  pub count : length leaves + leaf_counts (shapes_in (drop number fields)) ≡ leaf_counts (shapes_in fields)
  pub full : HaveLeaves (shapes_in (drop number fields))
  pub few : end ≤ length leaves * most_bytes
  pub many : number ≤ length leaves

-- a shape with numbers in it has one
pub some_leaf : (shape : Shape) → HasLeaves shape → 0 < leaf_count shape
some_leaf (Single scalar) full = omega arith
some_leaf (Struct members) full = full.0

-- what a number is a multiple of is not above it
low_unit : (count unit n : ℕ) → n ≡ count * unit → 0 < n → unit ≤ n
low_unit zero unit n is some = absurd (grind arith)
low_unit (suc count) unit n is some =
    let le : unit ≤ unit * suc count = le-mul_of_pos_right unit (omega arith) in
    let e = mul_comm unit (suc count) in
    omega arith

-- an alignment is no more than the most bytes of a number
pub low_alignment : (shape : Shape) → alignment shape ≤ most_bytes
low_alignment shape =
    let m = most_over_shape shape in low_unit m.count (alignment shape) most_bytes m.is (omega arith)

-- a next multiple is no further than multiples of all alignments
pub next_is_low : (unit from to count : ℕ) → IsNextMultiple unit from to → IsMultiple unit most_bytes → from ≤ count * most_bytes → to ≤ count * most_bytes
next_is_low unit from to count next divides low = next.first (count * most_bytes) (multiple_through divides (record { count = count; is = refl })) low

pub so_far_none : (fields : List program.Shape) → HaveLeaves (shapes_in fields) → IsSoFar fields 0 0 1 []
so_far_none fields full =
    let some = some_alignments (shapes_in fields) in
    record {
      follow = λ last behind f. f;
      greatest = omega arith;
      some = omega arith;
      low = omega arith;
      count = omega arith;
      full = full;
      few = omega arith;
      many = omega arith;
    }

-- one further field stands before the others
one_off : {X : Type 0} (xs : List X) (i : ℕ) (x : X) → i < length xs → x ≡ get_or xs i x → drop i xs ≡ x ∷ drop (i + 1) xs
one_off xs i x within is = drop-cons xs i x within ∙ ap (λ y. y ∷ drop (suc i) xs) (sym is) ∙ ap (λ n. x ∷ drop n xs) (sym (add-one i))

pub so_far_more : (fields : List program.Shape) (number end align : ℕ) (leaves : List Leaf) (field : program.Shape) (part : Part) (offset : ℕ)
    → number < length fields → field ≡ get_or fields number field → IsSoFar fields number end align leaves
    → IsPart (shape_in field) part → IsNextMultiple part.align end offset
    → IsSoFar fields (number + 1) (offset + part.size) (max align part.align) (leaves ++ map (in_member number offset) (map leaf_of part.found.items))
so_far_more fields number end align leaves field part offset within is before made next =
    let inner = map leaf_of part.found.items in
    let own = map (in_member number offset) inner in
    let rest = drop (number + 1) fields in
    let e = one_off fields number field within is in
    let whole = subst (λ l. (last : ℕ) (behind : List Leaf) → Follow (shapes_in l) number end last behind → Follow (shapes_in fields) 0 0 last (leaves ++ behind)) e before.follow in
    let next' : IsNextMultiple (alignment (shape_in field)) end offset = subst (λ n. IsNextMultiple n end offset) made.align next in
    let g : max align (max (alignment (shape_in field)) (greatest_alignment (shapes_in rest))) ≡ greatest_alignment (shapes_in fields) =
    subst (λ l. max align (greatest_alignment (shapes_in l)) ≡ greatest_alignment (shapes_in fields)) e before.greatest in
    let c : length leaves + (leaf_count (shape_in field) + leaf_counts (shapes_in rest)) ≡ leaf_counts (shapes_in fields) =
    subst (λ l. length leaves + leaf_counts (shapes_in l) ≡ leaf_counts (shapes_in fields)) e before.count in
    let full : HasLeaves (shape_in field) × HaveLeaves (shapes_in rest) = subst (λ l. HaveLeaves (shapes_in l)) e before.full in
    let some = some_leaf (shape_in field) full.0 in
    let low = low_alignment (shape_in field) in
    let all : length (leaves ++ own) ≡ length leaves + leaf_count (shape_in field) =
    length-append leaves own ∙ ap (λ n. length leaves + n) (length-map inner (in_member number offset) ∙ length-map part.found.items leaf_of ∙ made.count) in
    let starts : offset ≤ length leaves * most_bytes =
    next_is_low (alignment (shape_in field)) end offset (length leaves) next' (most_over_shape (shape_in field)) before.few in
    record {
      follow = λ last behind f.
          subst (λ l. Follow (shapes_in fields) 0 0 last l) (sym (append_assoc leaves own behind))
          (whole last (own ++ behind) (offset, part.size, inner, behind, next', made.takes, f, refl));
      greatest = (let same = made.align in omega arith);
      some = (let p = before.some in omega arith);
      low = (let p = before.low in let same = made.align in omega arith);
      count = omega arith;
      full = full.1;
      few = (let p = made.few in omega arith);
      many = (let p = before.many in omega arith);
    }

-- all fields are laid out
pub so_far_all : (fields : List program.Shape) (number end : ℕ) (part : Part) → length fields ≤ number
    → IsSoFar fields number end part.align (map leaf_of part.found.items) → IsNextMultiple part.align end part.size → IsPart (Struct (shapes_in fields)) part
so_far_all fields number end part past before next =
    let leaves = map leaf_of part.found.items in
    let e = drop_all number fields past in
    let whole = subst (λ l. (last : ℕ) (behind : List Leaf) → Follow (shapes_in l) number end last behind → Follow (shapes_in fields) 0 0 last (leaves ++ behind)) e before.follow in
    let g : max part.align 1 ≡ greatest_alignment (shapes_in fields) =
    subst (λ l. max part.align (greatest_alignment (shapes_in l)) ≡ greatest_alignment (shapes_in fields)) e before.greatest in
    let c : length leaves + 0 ≡ leaf_counts (shapes_in fields) =
    subst (λ l. length leaves + leaf_counts (shapes_in l) ≡ leaf_counts (shapes_in fields)) e before.count in
    let same : part.align ≡ greatest_alignment (shapes_in fields) = (let p = before.some in omega arith) in
    let next' : IsNextMultiple (greatest_alignment (shapes_in fields)) end part.size = subst (λ n. IsNextMultiple n end part.size) same next in
    let many = length-map part.found.items leaf_of in
    let few : part.size ≤ length leaves * most_bytes =
    next_is_low (greatest_alignment (shapes_in fields)) end part.size (length leaves) next' (most_over_members (shapes_in fields)) before.few in
    record {
      takes = (end, subst (λ l. Follow (shapes_in fields) 0 0 end l) (append-nil leaves) (whole end [] (refl, refl)), next');
      align = same;
      count = omega arith;
      few = omega arith;
    }

-- no part of a struct with at most 1,024 numbers begins or ends so far on that a number of 32 bits cannot say it
pub ends_low : (fields : List program.Shape) (number end align : ℕ) (leaves : List Leaf) → leaf_counts (shapes_in fields) ≤ 1024
    → IsSoFar fields number end align leaves → end ≤ 1024 * most_bytes
ends_low fields number end align leaves few before =
    let c = before.count in
    let f = before.few in
    omega arith

-- the numbers of a part that is put at an offset begin low too
pub begin_low : (shape : Shape) (part : Part) (offset n : ℕ) → IsPart shape part → offset + part.size ≤ n
    → All (λ found. found.offset + offset ≤ n) part.found.items
begin_low shape part offset n made low =
    All-weaker (λ found. end_of (leaf_of found) ≤ part.size) (λ found. found.offset + offset ≤ n) (λ found h. omega arith) part.found.items
    (through_images (λ leaf. end_of leaf ≤ part.size) leaf_of part.found.items (inside shape part.size (map leaf_of part.found.items) made.takes))

-- A shape takes one number of bytes, and has its numbers at one place.
use Rattle.std.proofs.Common.{◌≡◌, ℕ, ◌+◌, List, ◌++◌, map, sym, ◌∙◌, ap, subst}
use Rattle.def_layout.specs.Shape.{Shape, Single, Struct, Shapes, NoShapes, MoreShapes}
use Rattle.def_layout.specs.declared.laid.Laid.{Laid}
use Rattle.def_layout.specs.declared.laid.Leaf.{Leaf}
use Rattle.def_layout.specs.Std430.{in_member, Takes, Follow, IsLaidOut, IsNextMultiple, greatest_alignment}
use Rattle.def_layout.proofs.Multiples.{same_next}

mutual
  pub one_size : (shape : Shape) (size other : ℕ) (leaves others : List Leaf) → Takes shape size leaves → Takes shape other others
      → (size ≡ other) × (leaves ≡ others)
  one_size (Single scalar) size other leaves others p q = (p.0 ∙ sym q.0, p.1 ∙ sym q.1)
  one_size (Struct members) size other leaves others (end, p, next) (end', q, next') =
      let e = one_end members 0 0 end end' leaves others p q in
      (same_next next (subst (λ n. IsNextMultiple (greatest_alignment members) n other) (sym e.0) next'), e.1)

  pub one_end : (members : Shapes) (number from end end' : ℕ) (leaves others : List Leaf)
      → Follow members number from end leaves → Follow members number from end' others → (end ≡ end') × (leaves ≡ others)
  one_end NoShapes number from end end' leaves others p q = (p.0 ∙ sym q.0, p.1 ∙ sym q.1)
  one_end (MoreShapes first more) number from end end' leaves others (o, s, i, b, next, takes, follow, is) (o', s', i', b', next', takes', follow', is') =
      let offset : o ≡ o' = same_next next next' in
      let t = one_size first s s' i i' takes takes' in
      let from : o + s ≡ o' + s' = ap (λ n. n + s) offset ∙ ap (λ n. o' + n) t.0 in
      let f = one_end more (number + 1) (o + s) end end' b b' follow (subst (λ n. Follow more (number + 1) n end' b') (sym from) follow') in (
        f.0,
        is ∙ ap (λ n. map (in_member number n) i ++ b) offset ∙ ap (λ l. map (in_member number o') l ++ b) t.1
            ∙ ap (λ l. map (in_member number o') i' ++ l) f.1 ∙ sym is',
      )

pub one_layout : (shape : Shape) (one other : Laid) → IsLaidOut shape one → IsLaidOut shape other → one ≡ other
one_layout shape one other p q =
    let alignment : one.align ≡ other.align = p.align ∙ sym q.align in
    let t = one_size shape one.size other.size one.leaves other.leaves p.takes q.takes in
    let stride : one.stride ≡ other.stride =
    same_next p.stride (subst (λ n. IsNextMultiple one.align n other.stride) (sym t.0)
    (subst (λ n. IsNextMultiple n other.size other.stride) (sym alignment) q.stride)) in
    ap (λ n. record { size = n; align = one.align; stride = one.stride; leaves = one.leaves }) t.0
    ∙ ap (λ n. record { size = other.size; align = n; stride = one.stride; leaves = one.leaves }) alignment
    ∙ ap (λ n. record { size = other.size; align = other.align; stride = n; leaves = one.leaves }) stride
    ∙ ap (λ n. record { size = other.size; align = other.align; stride = other.stride; leaves = n }) t.1

-- Of the same lists the same is picked.
use Rattle.std.proofs.Common.{◌≡◌, ℕ, ◌<◌, List, [], refl, ap, ◌∙◌, subst, arith, inl, inr}
use Rattle.std.specs.Prelude.{slice_get, Some}
use Rattle.std.proofs.lemmas.Bool.{cases_order}
use Rattle.qs_overload.specs.Best.{Best, IsUnbeaten}
use Rattle.qs_overload.specs.declared.choice.Picked.{Picked}
use Rattle.qs_overload.specs.declared.choice.Picked.TheVariants.{One, Nobody, Tie}

-- of no lists none is unbeaten
of_none : (costs : List (List ℕ)) (number : ℕ) → costs ≡ [] → IsUnbeaten costs number → ⊥
of_none costs number none one = no_list number one.list (subst (λ l. slice_get l number ≡ Some one.list) none one.is)
  where
    no_list : (n : ℕ) (x : List ℕ) → slice_get [] n ≡ Some x → ⊥
    no_list n x is = cc

-- one unbeaten list alone, and two
one_or_two : (costs : List (List ℕ)) (number first second : ℕ) → Best costs (One number) → Best costs (Tie first second) → ⊥
one_or_two costs number first second (own, only) (order, a, b, others) =
    let p = only first a in
    let q = only second b in
    absurd (omega arith)

-- the second of one tie is not before that of another
not_before : (costs : List (List ℕ)) (first second third fourth : ℕ) → Best costs (Tie first second) → Best costs (Tie third fourth) → second < fourth → ⊥
not_before costs first second third fourth (order, a, b, others) (after, x, y, more) less =
    let p = more second b less in
    let q = more first a (omega arith) in
    absurd (omega arith)

-- two ties are one
same_tie : (costs : List (List ℕ)) (first second third fourth : ℕ) → Best costs (Tie first second) → Best costs (Tie third fourth)
    → (first ≡ third) × (second ≡ fourth)
same_tie costs first second third fourth p q =
    let e : second ≡ fourth = elim (cases_order second fourth) [
      | inl e ↦ e
      | inr apart ↦ elim apart [
        | inl lt ↦ absurd (not_before costs first second third fourth p q lt)
        | inr gt ↦ absurd (not_before costs third fourth first second q p gt)
      ]
    ] in
    let order = p.0 in
    (q.3 first p.1 (omega arith), e)

pub one_best : (costs : List (List ℕ)) (one other : Picked) → Best costs one → Best costs other → one ≡ other
one_best costs (One a) (One b) p q = ap One (q.1 a p.0)
one_best costs (One a) Nobody p q = absurd (of_none costs a q p.0)
one_best costs (One a) (Tie b c) p q = absurd (one_or_two costs a b c p q)
one_best costs Nobody (One b) p q = absurd (of_none costs b p q.0)
one_best costs Nobody Nobody p q = refl
one_best costs Nobody (Tie b c) p q = absurd (of_none costs b p q.1)
one_best costs (Tie a b) (One c) p q = absurd (one_or_two costs c a b q p)
one_best costs (Tie a b) Nobody p q = absurd (of_none costs a q p.1)
one_best costs (Tie a b) (Tie c d) p q =
    let e = same_tie costs a b c d p q in ap (λ n. Tie n b) e.0 ∙ ap (λ n. Tie c n) e.1

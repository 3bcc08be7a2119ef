-- Lists whose members are told by where they stand, and what sorting leaves.
use Rattle.std.proofs.Common.{◌≡◌, inl, inr, true, sym, List, [], ◌∷◌, arith, refl}
use Rattle.std.specs.List.{AllByRecursion, Any, Contains, dedup}
use Rattle.std.specs.List.Retain.{IsFiltered, DiffersFromLast}
use Rattle.std.specs.List.Sorted.{IsPermutation, IsSorted, IsStrictlySortedBy}
use Rattle.std.specs.Ordering.{eq_by_cmp, is_eq}
use Rattle.std.specs.declared.cmp.Ordering.{Ordering}
use Rattle.std.specs.declared.cmp.Ordering.TheVariants.{Less, Equal, Greater}
use Rattle.std.proofs.lemmas.List.Elements.{All-contains, All-from_recursion, Contains-append_right}
use Rattle.std.proofs.lemmas.List.Filters.{dedup_is}
use Rattle.std.proofs.lemmas.List.Kept.{Any-dedup, Contains-from_dedup, IsStrictlySortedBy-dedup}
use Rattle.std.proofs.lemmas.List.Sorted.{Contains-permutation, IsPermutation-sym}
use Rattle.sl_base.specs.declared.diag.Diag.{Diag}
use Rattle.def_query.specs.Keys.{IsIn}
use Rattle.def_check.specs.Reply.{IsRising, IsSortedOnce, diag_cmp}
use Rattle.rl_all.specs.Ordered.{diag_equivalence, diag_total}

module _ {X : Type 0} where
  pub all_of : (P : X → Type 0) (xs : List X) → ((x : X) → IsIn x xs → P x) → AllByRecursion P xs
  all_of P [] each = tt
  all_of P (x ∷ xs) each = (each x (inl refl), all_of P xs (λ y i. each y (inr i)))

  pub in_contains : (x : X) (xs : List X) → IsIn x xs → Contains xs x
  in_contains x [] i = elim i [ ]
  in_contains x (y ∷ ys) (inl e) = (0, (omega arith), sym e)
  in_contains x (y ∷ ys) (inr i) = Contains-append_right (y ∷ []) ys x (in_contains x ys i)

  pub contains_in : (x : X) (xs : List X) → Contains xs x → IsIn x xs
  contains_in x xs h =
      All-contains (λ y. IsIn y xs) xs x
      (All-from_recursion (λ y. IsIn y xs) xs (all_of (λ y. IsIn y xs) xs (λ y i. i))) h

tied : (o : Ordering) → is_eq o ≡ true → o ≡ Equal
tied Less h = cc
tied Equal h = refl
tied Greater h = cc

rising : (xs : List Diag) → IsStrictlySortedBy diag_cmp xs → IsRising xs
unfolding IsStrictlySortedBy
rising [] s = tt
rising (x ∷ xs) s = (s.0, rising xs s.1)

-- what a sort and then `dedup` leave
pub sorted_once :
    (all moved once : List Diag) → IsPermutation all moved → IsSorted diag_cmp moved
    → IsFiltered (DiffersFromLast (eq_by_cmp diag_cmp)) [] moved once → IsSortedOnce all once
sorted_once all moved once permutation sorted filtered =
    let is : once ≡ dedup (eq_by_cmp diag_cmp) moved = dedup_is (eq_by_cmp diag_cmp) moved once filtered in
    rw is (record {
      rising = rising _ (IsStrictlySortedBy-dedup diag_total (λ x y. refl) moved sorted);
      only = λ x i.
          contains_in x all (Contains-permutation moved all x (IsPermutation-sym all moved permutation)
          (Contains-from_dedup (eq_by_cmp diag_cmp) moved x (in_contains x _ i)));
      each = λ x i.
          let kept : Any (λ y. eq_by_cmp diag_cmp x y ≡ true) (dedup (eq_by_cmp diag_cmp) moved) =
          Any-dedup diag_equivalence moved x (Contains-permutation all moved x permutation (in_contains x all i)) in
          (kept.1, tied (diag_cmp x kept.1) kept.4, contains_in kept.1 _ (kept.0, kept.2, kept.3));
    })

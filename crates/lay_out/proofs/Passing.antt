-- What is known of the bindings that are not free while those below the next one are passed.
use Rattle.std.proofs.Common.{◌≡◌, ℕ, ◌+◌, ◌-◌, ◌<◌, ◌≤◌, List, length, get_or, arith, subst, below_more, ⊎_elim}
use Rattle.std.specs.List.{Contains}
use Rattle.std.specs.List.Sorted.{IsNonDecreasing}
use Rattle.std.proofs.lemmas.Bool.{cases_lt}
use Rattle.std.proofs.lemmas.List.{get_or_default}
use Rattle.std.proofs.lemmas.List.Elements.{Contains-get_or}
use Rattle.lay_out.specs.Free.{Takes}
use Rattle.lay_out.specs.declared.free.Free.{Free}

-- those before one place are passed, and each number from where it began up to the next one is among all
pub record IsPassing (old : Free) (items : List ℕ) (passed next : ℕ) : Type 0 where
  pub same : items ≡ old.fixed.items
  pub rises : IsNonDecreasing items
  pub below : (i : ℕ) → i < passed → get_or items i 0 < next
  pub within : passed ≤ length items
  pub from : old.next ≤ next
  pub first : (other : ℕ) → other < next → old.next ≤ other → Contains items other
  pub spends : next + (length items - passed) ≤ old.next + (length old.fixed.items - old.passed)

-- one that is below the next one is passed
pub passing_below : (old : Free) (items : List ℕ) (passed next : ℕ) → passed < length items → get_or items passed 0 < next
    → IsPassing old items passed next → IsPassing old items (passed + 1) next
passing_below old items passed next inside less before = record {
  same = before.same;
  rises = before.rises;
  below = below_more (λ i. get_or items i 0 < next) passed before.below less;
  within = omega arith;
  from = before.from;
  first = before.first;
  spends = (let p = before.spends in omega arith);
}

-- the next one is passed
pub passing_next : (old : Free) (items : List ℕ) (passed next : ℕ) → passed < length items → get_or items passed 0 ≡ next
    → IsPassing old items passed next → IsPassing old items (passed + 1) (next + 1)
passing_next old items passed next inside equal before = record {
  same = before.same;
  rises = before.rises;
  below = below_more (λ i. get_or items i 0 < next + 1) passed (λ i h. let p = before.below i h in omega arith) (omega arith);
  within = omega arith;
  from = (let p = before.from in omega arith);
  first = below_more (λ other. old.next ≤ other → Contains items other) next before.first
      (λ low. subst (Contains items) equal (Contains-get_or items passed 0 inside));
  spends = (let p = before.spends in omega arith);
}

-- a number that is above those that are passed and below the others is not among them
not_among : (items : List ℕ) (passed next : ℕ) → IsNonDecreasing items → ((i : ℕ) → i < passed → get_or items i 0 < next)
    → (passed < length items → next < get_or items passed 0) → ¬ Contains items next
not_among items passed next rises below behind (i, inside, is) =
    let e = get_or_default items i next 0 inside in
    ⊎_elim
    (λ (h : i < passed). let p = below i h in omega arith)
    (λ (h : passed ≤ i). let p = rises passed i 0 h inside in let q : next < get_or items passed 0 = behind (omega arith) in omega arith)
    (cases_lt i passed)

-- what is not passed is behind the next one, so that this one is free
pub passing_all : (old new : Free) (binding : ℕ) → IsPassing old new.fixed.items new.passed binding
    → (new.passed < length new.fixed.items → binding < get_or new.fixed.items new.passed 0) → new.next ≡ binding + 1
    → Takes old binding new
passing_all old new binding before behind next = record {
  same = before.same;
  ready = record {
    rises = before.rises;
    below = (λ i h. let p = before.below i h in omega arith);
    within = before.within;
  };
  from = before.from;
  next = next;
  free = subst (λ l. ¬ Contains l binding) before.same (not_among new.fixed.items new.passed binding before.rises before.below behind);
  first = λ other low high. subst (λ l. Contains l other) before.same (before.first other high low);
  spends = (let p = before.spends in omega arith);
}

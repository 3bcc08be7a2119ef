use Rattle.std.proofs.Common.{arith, refl, subst, List, ℕ}
use Rattle.std.specs.List.Sorted.{IsPermutation}
use Rattle.std.proofs.lemmas.List.Sorted.{IsNonDecreasingBy-from_sort}
use Rattle.lay_out.proofs.binding.free_of.Goals as goal

pub returns : goal.returns
returns c = record {
  ready = record {
    rises = IsNonDecreasingBy-from_sort (λ x. x) _ c.in_ok-sort.ensures.sorted;
    below = λ i h. absurd (omega arith);
    within = omega arith;
  };
  start = refl;
  unpassed = refl;
  fixed = subst (λ (l : List ℕ). IsPermutation l c.sort.new.self.items) c.in_ok-fixed.ensures c.in_ok-sort.ensures.permutation;
}

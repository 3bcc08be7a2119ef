use Rattle.rl_all.proofs.Sorted.{sorted_once}
use Rattle.rl_all.proofs.sorting.sorted_once.Goals as goal

pub returns : goal.returns
returns c = sorted_once _ _ _ c.sort.ensures.permutation c.in_ok-sort.ensures.sorted c.dedup.ensures.filtered

use Rattle.std.proofs.Common.{◌≡◌, ℕ, ◌<◌, length, false, slice_index_or}
use Rattle.std.specs.Ordering.{is_gt}
use Rattle.qe_rules.proofs.chain.least_place.Given as goal

-- the least of the keys so far
abbrev pub invariant-loop-i : goal.invariant-loop-i
invariant-loop-i g l = record {
  within : l.least < length l.keys;
  least : (k : ℕ) (d : g.row.K.Denot) → k < l.i → is_gt (g.K.Ord.cmp (slice_index_or l.keys l.least d) (slice_index_or l.keys k d)) ≡ false;
}

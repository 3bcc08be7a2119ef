use Rattle.std.proofs.Common.{◌≡◌, ℕ, ◌<◌, false, slice_index_or}
use Rattle.std.specs.Ordering.{eq_by_cmp}
use Rattle.qe_chain.proofs.place.index_of.Given as goal

-- the keys so far differ from the key
abbrev pub invariant-loop-at : goal.invariant-loop-at
invariant-loop-at g l =
    (i : ℕ) (d : g.row.K.Denot) → i < l.at → eq_by_cmp g.K.Ord.cmp l.key (slice_index_or l.keys i d) ≡ false

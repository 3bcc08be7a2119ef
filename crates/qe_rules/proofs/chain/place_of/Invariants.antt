use Rattle.std.proofs.Common.{◌≡◌, ℕ, ◌<◌, false, slice_index_or}
use Rattle.std.specs.Ordering.{is_eq}
use Rattle.qe_rules.proofs.chain.place_of.Given as goal

-- the keys so far differ from the key
abbrev pub invariant-loop-at : goal.invariant-loop-at
invariant-loop-at g l = (i : ℕ) (d : g.row.K.Denot) → i < l.at → is_eq (g.K.Ord.cmp (slice_index_or l.keys i d) l.key) ≡ false

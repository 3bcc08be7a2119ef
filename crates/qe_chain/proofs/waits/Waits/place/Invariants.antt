use Rattle.std.proofs.Common.{◌≡◌, ℕ, ◌<◌, false, slice_index_or}
use Rattle.def_core.specs.State.{idle}
use Rattle.def_core.specs.Needs.{is_in}
use Rattle.qe_chain.proofs.waits.Waits.place.Given as goal

-- the callers so far have not claimed the key
abbrev pub invariant-loop-caller : goal.invariant-loop-caller
invariant-loop-caller g l =
    (j : ℕ) → j < l.caller → is_in g.K.Ord.cmp l.key (slice_index_or l.claims-items j idle).chain ≡ false

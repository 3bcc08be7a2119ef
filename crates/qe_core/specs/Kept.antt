-- What the machine keeps beside its state.
use Rattle.std.specs.Prelude.{◌≡◌, ℕ, ◌≤◌, List, None}
use Rattle.std.specs.declared.cmp.Ordering.{Ordering}
use Rattle.std.specs.declared.cmp.Ordering.TheVariants.{Equal}
use Rattle.def_query.specs.Keys.{IsIn, AreDistinct}
use Rattle.def_query.specs.Map.{get}
use Rattle.def_core.specs.declared.event.Event.{Event}
use Rattle.def_core.specs.declared.event.Event.TheVariants.{Ask}
use Rattle.def_core.specs.State.{Caller, claimed}
use Rattle.qe_chain.specs.Chains.{open_count}

-- keys that compare equal are the same key, claimed keys are apart from each other and from what is
-- published, and there is room for an answer of each key that is claimed or waited for
pub record IsKept {K A : Type 0} (cmp : K → K → Ordering) (pairs : List (K × A))
    (callers : List (Caller K))
    (spare : ℕ) : Type 0 where
  pub one_key : (x y : K) → cmp x y ≡ Equal → x ≡ y
  pub distinct : AreDistinct (claimed callers)
  pub unpublished : (k : K) → IsIn k (claimed callers) → get cmp pairs k ≡ None
  pub room : open_count callers ≤ spare

-- the event is no Ask, and so takes no memory
abbrev pub IsNoAsk : {K A : Type 0} → Event K A → Type 0
IsNoAsk (Ask c k) = ⊥
IsNoAsk _ = Unit {0}

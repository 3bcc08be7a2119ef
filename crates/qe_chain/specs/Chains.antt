-- The chains of all callers as they are kept, and places in them.
use Rattle.std.specs.Prelude.{◌≡◌, ℕ, ◌+◌, ◌^◌, ◌<◌, ◌≤◌, List, length, sum_by, slice_index_or, Option, Some, None, MatchOption}
use Rattle.std.specs.declared.cmp.Ordering.{Ordering}
use Rattle.std.specs.declared.cmp.Ordering.TheVariants.{Equal}
use Rattle.def_query.specs.Keys.{AreDistinct}
use Rattle.def_core.specs.State.{Caller, idle, claimed}
use Rattle.def_core.specs.Needs.{owner, need}
use Rattle.qe_chain.specs.declared.place.Place.{Place}

module _ {K : Type 0} where
  -- the number is one of the callers'
  pub record IsCaller (callers : List (Caller K)) (c : ℕ) : Type 0 where
    pub least : 1 ≤ c
    pub greatest : c ≤ length callers

  -- 1 for a key that is waited for
  abbrev pub awaited_count : Option K → ℕ
  awaited_count None = 0
  awaited_count (Some k) = 1

  -- how many keys are claimed and how many callers wait, together
  abbrev pub open_count : List (Caller K) → ℕ
  open_count callers = sum_by (λ c. length c.chain + awaited_count c.awaits) callers

  -- the key at the place
  abbrev pub key_at : List (Caller K) → Place → K → K
  key_at callers p d = slice_index_or (slice_index_or callers p.caller idle).chain p.index d

  -- the place is one of a chain
  pub record IsWithin (callers : List (Caller K)) (p : Place) : Type 0 where
    pub caller : p.caller < length callers
    pub index : p.index < length (slice_index_or callers p.caller idle).chain

  -- the key stands at the place
  pub record IsPlace (callers : List (Caller K)) (k : K) (p : Place) : Type 0 where
    pub within : IsWithin callers p
    pub key : (d : K) → key_at callers p d ≡ k

  -- keys that compare equal are the same key, the keys of all chains differ, and so many are
  -- claimed or awaited
  pub record IsApart (cmp : K → K → Ordering) (callers : List (Caller K)) (open_keys : ℕ) : Type 0
    where
      pub one_key : (x y : K) → cmp x y ≡ Equal → x ≡ y
      pub distinct : AreDistinct (claimed callers)
      pub few : length callers < 2 ^ 32
      pub counted : open_keys ≡ open_count callers

module _ {K : Type 0} (cmp : K → K → Ordering) where
  -- the current need of the key at the place stands at another one, or it has none that is claimed
  abbrev pub GoesOn : List (Caller K) → Place → Option Place → Type 0
  GoesOn callers p to =
      MatchOption to
      ((k : K) → IsPlace callers k p → (y : K) → need cmp callers k ≡ Some y
      → owner cmp callers y ≡ None)
      (λ q. (k : K) → IsPlace callers k p
      → (y : K) × (need cmp callers k ≡ Some y) × IsPlace callers y q)

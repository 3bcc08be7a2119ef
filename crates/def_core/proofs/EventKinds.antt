-- Events of different kinds are different.
use Rattle.std.proofs.Common.{◌≡◌, ℕ}
use Rattle.def_core.specs.declared.event.Event.{Event}
use Rattle.def_core.specs.declared.event.Event.TheVariants.{Ask, Publish, Look, Abandon}

module _ {K A : Type 0} where
  pub same_key : (e : Event K A) (c d : ℕ) (k j : K) → e ≡ Ask c k → e ≡ Ask d j → k ≡ j
  same_key e c d k j p q = cc

  pub no_ask_publish : (e : Event K A) (c d : ℕ) (k : K) (a : A) → e ≡ Ask c k → e ≡ Publish d a → ⊥
  no_ask_publish e c d k a p q = cc

  pub no_ask_look : (e : Event K A) (c d : ℕ) (k : K) → e ≡ Ask c k → e ≡ Look d → ⊥
  no_ask_look e c d k p q = cc

  pub no_ask_abandon : (e : Event K A) (c d : ℕ) (k : K) → e ≡ Ask c k → e ≡ Abandon d → ⊥
  no_ask_abandon e c d k p q = cc

-- Following current needs never comes back to a key.
use Rattle.std.proofs.Common.{◌≡◌, ◌⊎◌, inl, inr, ℕ, List, [], ◌∷◌, ◌++◌, Some, None, refl, sym, ◌∙◌, ap, subst}
use Rattle.std.specs.Cmp.{IsTotalOrder}
use Rattle.std.specs.declared.cmp.Ordering.{Ordering}
use Rattle.def_query.specs.Keys.{IsIn, IsWalk, Leads, Reaches}
use Rattle.def_query.specs.Lawful.{IsLawful}
use Rattle.def_query.specs.Meaning.{Meaning}
use Rattle.def_query.proofs.Walks.{leads_step, leads_reaches, reaches_join, walk_along}
use Rattle.def_core.specs.declared.event.Event.{Event}
use Rattle.def_core.specs.declared.event.Event.TheVariants.{Ask, Publish, Look, Abandon}
use Rattle.def_core.specs.State.{State, opening, caller_at, last}
use Rattle.def_core.specs.Needs.{Needs}
use Rattle.def_core.specs.Replay.{caller_of, after, replay, Fits}
use Rattle.def_core.specs.Legal.{Legal}
use Rattle.def_core.proofs.Paths.{need_claimed}
use Rattle.def_core.proofs.Events.{IsTidy}
use Rattle.def_core.proofs.Tidy.{none_claimed}
use Rattle.def_core.proofs.Moves.{IsNewNeed, needs_after}
use Rattle.def_core.proofs.EventKinds.{same_key, no_ask_publish, no_ask_look, no_ask_abandon}
use Rattle.def_core.proofs.Histories.{replay_snoc, always}
use Rattle.def_core.proofs.Lines.{some_or_none}
use Rattle.def_core.proofs.PublishedRight.{standing}

-- S has one pair (t, k) more than R at most, and that only where k does not reach t
module _ {K : Type 0} (R S : K → K → Type 0) (t k : K)
    (covers : (x y : K) → S x y → R x y ⊎ ((x ≡ t) × (y ≡ k) × (¬ Reaches R k t))) where
  to_start : (x : K) (zs : List K) → IsWalk S x (zs ++ t ∷ []) → Reaches R x t
  to_start x [] w = elim (covers x t w.0) [ inl h ↦ inr (leads_step R x t h) | inr e ↦ inl e.0 ]
  to_start x (z ∷ zs) w =
      elim (covers x z w.0) [
        | inl h ↦ inr (leads_reaches R x z t (leads_step R x z h) (to_start z zs w.1))
        | inr e ↦ inl e.0
      ]

  -- a walk of S is one of R, or goes by the pair
  old_or_new :
      (x : K) (zs : List K) (y : K) → IsWalk S x (zs ++ y ∷ [])
      → IsWalk R x (zs ++ y ∷ []) ⊎ (Reaches S x t × Reaches R k y × (¬ Reaches R k t))
  old_or_new x [] y w =
      elim (covers x y w.0) [
        | inl h ↦ inl (h, tt)
        | inr e ↦ inr (inl e.0, inl (sym e.1), e.2)
      ]
  old_or_new x (z ∷ zs) y w =
      elim (old_or_new z zs y w.1) [
        | inl v ↦ elim (covers x z w.0) [
          | inl h ↦ inl (h, v)
          | inr e ↦ inr (inl e.0, inr (zs, subst (λ q. IsWalk R q (zs ++ y ∷ [])) e.1 v), e.2)
        ]
        | inr v ↦ inr (inr (leads_reaches S x z t (leads_step S x z w.0) v.0), v.1, v.2)
      ]

  -- the pair closes nothing
  stays_acyclic : ((x : K) → ¬ Leads R x x) → (x : K) → ¬ Leads S x x
  stays_acyclic acyclic x w =
      elim (old_or_new x w.0 x w.1) [
        | inl v ↦ acyclic x (w.0, v)
        | inr v ↦ v.2 (reaches_join R k x t v.1 (back v.0))
      ]
    where
      back : Reaches S x t → Reaches R x t
      back (inl e) = inl e
      back (inr u) = to_start x u.0 u.1

module _ {K A : Type 0} (cmp : K → K → Ordering) (total : IsTotalOrder cmp) (r : Meaning K A)
    (lawful : IsLawful cmp r) where
  abbrev pub IsAcyclic : State K A → Type 0
  IsAcyclic s = (k : K) → ¬ Leads (Needs cmp s.callers) k k

  -- an event that makes no need
  fewer_needs :
      (s : State K A) (e : Event K A) → IsTidy cmp s → Fits cmp s e
      → ((x y : K) → ¬ IsNewNeed cmp total lawful.one_key s e x y) → IsAcyclic s → IsAcyclic (after cmp s e)
  fewer_needs s e tidy fits none acyclic x w =
      acyclic x (w.0, walk_along (Needs cmp (after cmp s e).callers) (Needs cmp s.callers) old x (w.0 ++ x ∷ []) w.1)
    where
      old : (y z : K) → Needs cmp (after cmp s e).callers y z → Needs cmp s.callers y z
      old y z needs =
          elim (needs_after cmp total lawful.one_key s e tidy fits y z needs) [
            | inl was ↦ was
            | inr new ↦ absurd (none y z new)
          ]

  -- the need that an Ask makes is that of its key by the last key of the chain
  new_is :
      (s : State K A) (c : ℕ) (k t x y : K) → last (caller_at s.callers c).chain ≡ Some t
      → IsNewNeed cmp total lawful.one_key s (Ask c k) x y
      → (x ≡ t) × (y ≡ k) × (¬ Reaches (Needs cmp s.callers) k t)
  new_is s c k t x y is_last new =
      let same : new.number ≡ c = sym (ap caller_of new.asks) in
      let f : Some x ≡ Some t = sym (subst (λ d. last (caller_at s.callers d).chain ≡ Some x) same new.top) ∙ is_last in
      let key : y ≡ k = same_key (Ask c k) new.number c y k new.asks refl in
      let end : x ≡ t = cc in (
        end,
        key,
        subst (λ z. ¬ Reaches (Needs cmp s.callers) z t) key
            (subst (λ z. ¬ Reaches (Needs cmp s.callers) y z) end new.apart),
      )

  acyclic_ask :
      (s : State K A) (c : ℕ) (k : K) → IsTidy cmp s → Fits cmp s (Ask c k) → IsAcyclic s
      → IsAcyclic (after cmp s (Ask c k))
  acyclic_ask s c k tidy fits acyclic =
      elim (some_or_none (last (caller_at s.callers c).chain)) [
        | inl t ↦
            stays_acyclic (Needs cmp s.callers) (Needs cmp (after cmp s (Ask c k)).callers) t.0 k
            (λ x y needs. elim (needs_after cmp total lawful.one_key s (Ask c k) tidy fits x y needs) [
              | inl was ↦ inl was
              | inr new ↦ inr (new_is s c k t.0 x y t.1 new)
            ])
            acyclic
        | inr none ↦
            fewer_needs s (Ask c k) tidy fits
            (λ x y new.
            let same : new.number ≡ c = sym (ap caller_of new.asks) in
            let f : Some x ≡ None =
            sym (subst (λ d. last (caller_at s.callers d).chain ≡ Some x) same new.top) ∙ none in
            cc)
            acyclic
      ]

  acyclic_after :
      (s : State K A) (e : Event K A) → IsTidy cmp s → Fits cmp s e → IsAcyclic s → IsAcyclic (after cmp s e)
  acyclic_after s (Ask c k) tidy fits acyclic = acyclic_ask s c k tidy fits acyclic
  acyclic_after s (Publish c a) tidy fits acyclic =
      fewer_needs s (Publish c a) tidy fits
      (λ x y new. no_ask_publish (Publish c a) new.number c y a new.asks refl) acyclic
  acyclic_after s (Look c) tidy fits acyclic =
      fewer_needs s (Look c) tidy fits (λ x y new. no_ask_look (Look c) new.number c y new.asks refl) acyclic
  acyclic_after s (Abandon c) tidy fits acyclic =
      fewer_needs s (Abandon c) tidy fits (λ x y new. no_ask_abandon (Abandon c) new.number c y new.asks refl) acyclic

  acyclic_opening : (n : ℕ) → IsAcyclic (opening n)
  acyclic_opening n k w = nowhere w.0 w.1
    where
      empty : (y : K) → Needs cmp (opening {A = A} n).callers k y → ⊥
      empty y e =
          subst (IsIn k) (none_claimed K n) (need_claimed cmp total lawful.one_key (opening {A = A} n).callers k y e)

      nowhere : (zs : List K) → IsWalk (Needs cmp (opening {A = A} n).callers) k (zs ++ k ∷ []) → ⊥
      nowhere [] v = empty k v.0
      nowhere (z ∷ zs) v = empty z v.0

  pub acyclic : (n : ℕ) (h : List (Event K A)) → Legal cmp r n h → IsAcyclic (replay cmp n h)
  acyclic n =
      always cmp r n (λ h. IsAcyclic (replay cmp n h)) (acyclic_opening n)
      (λ h e legal ih m.
      subst IsAcyclic (sym (replay_snoc cmp n h e))
      (acyclic_after (replay cmp n h) e (standing cmp total r lawful n h legal).sound.tidy m.fits ih))

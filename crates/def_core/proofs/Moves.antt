-- How events move current needs.
use Rattle.std.proofs.Common.{◌≡◌, ◌≢◌, ◌⊎◌, inl, inr, ℕ, ◌-◌, ◌<◌, List, [], ◌∷◌, ◌++◌, length, get_or, set, Option, Some, None, sym, ◌∙◌, ap, subst, arith}
use Rattle.std.specs.Prelude.{option_to_list}
use Rattle.std.specs.Cmp.{IsTotalOrder}
use Rattle.std.specs.declared.cmp.Ordering.{Ordering}
use Rattle.std.specs.declared.cmp.Ordering.TheVariants.{Equal}
use Rattle.std.proofs.lemmas.List.{get_or-set_same, get_or-set_other, length-set}
use Rattle.def_query.specs.Keys.{IsIn, AreDistinct, IsWalk, Reaches}
use Rattle.def_query.proofs.Walks.{Place, place_of, in_append_cases, regroup}
use Rattle.def_core.specs.declared.event.Event.{Event}
use Rattle.def_core.specs.declared.event.Event.TheVariants.{Ask, Publish, Look, Abandon}
use Rattle.def_core.specs.State.{Caller, State, idle, caller_at, claimed, last, without_last}
use Rattle.def_core.specs.Needs.{owner, first, need, Needs, closing}
use Rattle.def_core.specs.Replay.{after, Fits}
use Rattle.def_core.proofs.Lists.{last_exists, last_some, last_snoc}
use Rattle.def_core.proofs.Chains.{Holds, claimed_holds, held_set, need_at, need_free, unowned}
use Rattle.def_core.proofs.Paths.{need_claimed}
use Rattle.def_core.proofs.Closing.{last_claimed, closes_closing}
use Rattle.def_core.proofs.Events.{AsksKnown, AsksFree, AsksCircle, AsksClaimed, ask_view, LooksKnown, LooksFree, LooksClaimed, look_view, publish_is, IsTidy, within}
use Rattle.def_core.proofs.Tidy.{some_is, tidy_after}

last_mid : {X : Type 0} → (xs : List X) (x : X) → last (xs ++ x ∷ []) ≡ Some x
last_mid xs x = last_snoc xs x

module _ {K : Type 0} (cmp : K → K → Ordering) (total : IsTotalOrder cmp)
    (one_key : (x y : K) → cmp x y ≡ Equal → x ≡ y) where
  -- a key in a chain that stays has the need that it had
  need_other :
      (callers : List (Caller K)) (i j : ℕ) (next : Caller K) (x : K)
      → AreDistinct (claimed callers) → AreDistinct (claimed (set callers i next)) → j ≢ i → Holds callers j x
      → need cmp (set callers i next) x ≡ need cmp callers x
  need_other callers i j next x d dn apart h =
      let same : get_or (set callers i next) j idle ≡ get_or callers j idle = get_or-set_other callers i j next idle apart in
      let p : Place x (get_or callers j idle).chain = place_of x (get_or callers j idle).chain h.has in
      let w : j < length (set callers i next) = (let l = length-set callers i next in let q = h.within in omega arith) in
      need_at cmp total one_key j (set callers i next) p.before x p.after dn w (ap (λ (c : Caller K). c.chain) same ∙ p.is)
      ∙ (ap (λ (c : Caller K). first cmp (p.after ++ option_to_list c.awaits)) same
      ∙ sym (need_at cmp total one_key j callers p.before x p.after d h.within p.is))

  -- the need of a key of the chain that is put in
  need_own :
      (callers : List (Caller K)) (i : ℕ) (next : Caller K) (xs : List K) (x : K) (ys : List K)
      → AreDistinct (claimed (set callers i next)) → i < length callers → next.chain ≡ xs ++ x ∷ ys
      → need cmp (set callers i next) x ≡ first cmp (ys ++ option_to_list next.awaits)
  need_own callers i next xs x ys dn h e =
      let same : get_or (set callers i next) i idle ≡ next = get_or-set_same callers i next idle h in
      let w : i < length (set callers i next) = (let l = length-set callers i next in omega arith) in
      need_at cmp total one_key i (set callers i next) xs x ys dn w (ap (λ (c : Caller K). c.chain) same ∙ e)
      ∙ ap (λ (c : Caller K). first cmp (ys ++ option_to_list c.awaits)) same

  -- needs move in one chain alone
  moved :
      (callers : List (Caller K)) (i : ℕ) (next : Caller K) (P : K → K → Type 0)
      → AreDistinct (claimed callers) → AreDistinct (claimed (set callers i next)) → i < length callers
      → ((x y : K) → IsIn x next.chain → need cmp (set callers i next) x ≡ Some y → Needs cmp callers x y ⊎ P x y)
      → (x y : K) → Needs cmp (set callers i next) x y → Needs cmp callers x y ⊎ P x y
  moved callers i next P d dn h own x y e =
      let r = claimed_holds (set callers i next) x (need_claimed cmp total one_key (set callers i next) x y e) in
      elim (held_set callers i r.0 next x h r.1) [
        | inl q ↦ own x y q.1 e
        | inr q ↦ inl (sym (need_other callers i r.0 next x d dn q.0 q.1) ∙ e)
      ]

  -- the need of a key in the chain of a caller as it was
  need_was :
      (callers : List (Caller K)) (i : ℕ) (xs : List K) (x : K) (ys : List K) → AreDistinct (claimed callers)
      → i < length callers
      → (get_or callers i idle).chain ≡ xs ++ x ∷ ys
      → need cmp callers x ≡ first cmp (ys ++ option_to_list (get_or callers i idle).awaits)
  need_was callers i xs x ys d h e = need_at cmp total one_key i callers xs x ys d h e

  -- the last key of a chain that stays gets another need
  stays :
      (callers : List (Caller K)) (i : ℕ) (o : Option K)
      → AreDistinct (claimed callers)
      → AreDistinct (claimed (set callers i record { chain = (get_or callers i idle).chain; awaits = o }))
      → i < length callers
      → (x y : K) → IsIn x (get_or callers i idle).chain
      → need cmp (set callers i record { chain = (get_or callers i idle).chain; awaits = o }) x ≡ Some y
      → Needs cmp callers x y ⊎ ((last (get_or callers i idle).chain ≡ Some x) × (o ≡ Some y))
  stays callers i o d dn h x y isin e =
      let chain : List K = (get_or callers i idle).chain in
      let next : Caller K = record { chain = chain; awaits = o } in
      let p : Place x chain = place_of x chain isin in
      let n = need_own callers i next p.before x p.after dn h p.is in
      let w = need_was callers i p.before x p.after d h p.is in
      go p.before p.after p.is (sym n ∙ e) w
    where
      go :
          (xs ys : List K) → (get_or callers i idle).chain ≡ xs ++ x ∷ ys → first cmp (ys ++ option_to_list o) ≡ Some y
          → need cmp callers x ≡ first cmp (ys ++ option_to_list (get_or callers i idle).awaits)
          → Needs cmp callers x y ⊎ ((last (get_or callers i idle).chain ≡ Some x) × (o ≡ Some y))
      go xs [] is f w = inr (ap last is ∙ last_mid xs x, opened o f)
        where
          opened : (o : Option K) → first cmp (option_to_list o) ≡ Some y → o ≡ Some y
          opened None g = g
          opened (Some z) g = g
      go xs (z ∷ ys) is f w = inl (w ∙ f)

  -- a key is put behind a chain
  pushes :
      (callers : List (Caller K)) (i : ℕ) (k : K)
      → AreDistinct (claimed callers)
      → AreDistinct (claimed (set callers i record { chain = (get_or callers i idle).chain ++ k ∷ []; awaits = None }))
      → i < length callers
      → (x y : K) → IsIn x ((get_or callers i idle).chain ++ k ∷ [])
      → need cmp (set callers i record { chain = (get_or callers i idle).chain ++ k ∷ []; awaits = None }) x ≡ Some y
      → Needs cmp callers x y ⊎ ((last (get_or callers i idle).chain ≡ Some x) × (y ≡ k))
  pushes callers i k d dn h x y isin e =
      elim (in_append_cases x (get_or callers i idle).chain (k ∷ []) isin) [
        | inl j ↦
            (let p : Place x (get_or callers i idle).chain = place_of x (get_or callers i idle).chain j in
            let s : (get_or callers i idle).chain ++ k ∷ [] ≡ p.before ++ x ∷ (p.after ++ k ∷ []) =
            ap (λ l. l ++ k ∷ []) p.is ∙ regroup p.before p.after x k in
            let n = need_own callers i record { chain = (get_or callers i idle).chain ++ k ∷ []; awaits = None } p.before x (p.after ++ k ∷ []) dn h s in
            let w = need_was callers i p.before x p.after d h p.is in
            go p.before p.after p.is (sym n ∙ e) w)
        | inr j ↦ elim j [
          | inl f ↦
              (let s : (get_or callers i idle).chain ++ k ∷ [] ≡ (get_or callers i idle).chain ++ x ∷ [] = ap (λ z. (get_or callers i idle).chain ++ z ∷ []) (sym f) in
              let n = need_own callers i record { chain = (get_or callers i idle).chain ++ k ∷ []; awaits = None } (get_or callers i idle).chain x [] dn h s in
              let g : None ≡ Some y = sym n ∙ e in
              absurd (cc))
          | inr n ↦ absurd n
        ]
      ]
    where
      go :
          (xs ys : List K) → (get_or callers i idle).chain ≡ xs ++ x ∷ ys → first cmp ((ys ++ k ∷ []) ++ []) ≡ Some y
          → need cmp callers x ≡ first cmp (ys ++ option_to_list (get_or callers i idle).awaits)
          → Needs cmp callers x y ⊎ ((last (get_or callers i idle).chain ≡ Some x) × (y ≡ k))
      go xs [] is f w = inr (ap last is ∙ last_mid xs x, (let g : Some k ≡ Some y = f in cc))
      go xs (z ∷ ys) is f w = inl (w ∙ f)

  -- a chain loses its last key, and its caller does not wait
  pops :
      (callers : List (Caller K)) (i : ℕ) (t : K)
      → AreDistinct (claimed callers)
      → AreDistinct (claimed (set callers i record { chain = without_last (get_or callers i idle).chain; awaits = (get_or callers i idle).awaits }))
      → i < length callers
      → last (get_or callers i idle).chain ≡ Some t → (get_or callers i idle).awaits ≡ None
      → (x y : K) → IsIn x (without_last (get_or callers i idle).chain)
      → need cmp (set callers i record { chain = without_last (get_or callers i idle).chain; awaits = (get_or callers i idle).awaits }) x ≡ Some y
      → Needs cmp callers x y ⊎ ⊥
  pops callers i t d dn h l free x y isin e =
      let chain : List K = (get_or callers i idle).chain in
      let front : List K = without_last chain in
      let p : Place x front = place_of x front isin in
      let n = need_own callers i record { chain = front; awaits = (get_or callers i idle).awaits } p.before x p.after dn h p.is in
      let s : chain ≡ p.before ++ x ∷ (p.after ++ t ∷ []) = last_some chain t l ∙ (ap (λ l. l ++ t ∷ []) p.is ∙ regroup p.before p.after x t) in
      let w = need_was callers i p.before x (p.after ++ t ∷ []) d h s in
      go p.after (sym (ap (λ o. first cmp (p.after ++ option_to_list o)) free) ∙ (sym n ∙ e)) w
    where
      go :
          (ys : List K) → first cmp (ys ++ []) ≡ Some y
          → need cmp callers x ≡ first cmp ((ys ++ t ∷ []) ++ option_to_list (get_or callers i idle).awaits)
          → Needs cmp callers x y ⊎ ⊥
      go [] f w = let g : None ≡ Some y = f in absurd (cc)
      go (z ∷ ys) f w = inl (w ∙ f)

module _ {K A : Type 0} (cmp : K → K → Ordering) (total : IsTotalOrder cmp)
    (one_key : (x y : K) → cmp x y ≡ Equal → x ≡ y) where
  -- the need that an Ask makes: the last key of the chain needs the asked key, from which current needs do
  -- not lead to it
  pub record IsNewNeed (s : State K A) (e : Event K A) (x y : K) : Type 0 where
    pub number : ℕ
    pub asks : e ≡ Ask number y
    pub top : last (caller_at s.callers number).chain ≡ Some x
    pub apart : ¬ Reaches (Needs cmp s.callers) y x

  free_apart :
      (s : State K A) (c : ℕ) (k t : K) → IsTidy cmp s → owner cmp s.callers k ≡ None
      → last (caller_at s.callers c).chain ≡ Some t → ¬ Reaches (Needs cmp s.callers) k t
  free_apart s c k t tidy e l r =
      let u : ¬ IsIn k (claimed s.callers) = unowned cmp total one_key s.callers k tidy.distinct e in
      let n : need cmp s.callers k ≡ None = need_free cmp total one_key s.callers k u in
      elim r [
        | inl f ↦ u (subst (λ z. IsIn z (claimed s.callers)) (sym f) (last_claimed s.callers c t l))
        | inr w ↦ no_step w.0 w.1 n
      ]
    where
      no_step : (zs : List K) → IsWalk (Needs cmp s.callers) k (zs ++ t ∷ []) → need cmp s.callers k ≡ None → ⊥
      no_step [] w n = let f : Some t ≡ None = sym w.0 ∙ n in cc
      no_step (z ∷ zs) w n = let f : Some z ≡ None = sym w.0 ∙ n in cc

  open_apart :
      (s : State K A) (c : ℕ) (k t : K) → closing cmp s.callers c k ≡ None
      → last (caller_at s.callers c).chain ≡ Some t → ¬ Reaches (Needs cmp s.callers) k t
  open_apart s c k t e l r =
      let y = closes_closing cmp total one_key s.callers c k (t, l, r) in
      let f : Some y.0 ≡ None = sym y.1 ∙ e in
      cc

  -- each current need after an event was one before, or is the one that an Ask makes
  pub needs_after :
      (s : State K A) (e : Event K A) → IsTidy cmp s → Fits cmp s e
      → (x y : K) → Needs cmp (after cmp s e).callers x y → Needs cmp s.callers x y ⊎ IsNewNeed s e x y
  needs_after s (Ask c k) t f x y n =
      let d' = (tidy_after cmp total one_key s (Ask c k) t f).distinct in
      let h = within cmp s (Ask c k) f in
      elim (ask_view cmp s c k) [
        | AsksKnown a g o i ↦ inl (subst (λ (s : State K A). Needs cmp s.callers x y) i n)
        | AsksCircle w p g q j o i ↦ inl (subst (λ (s : State K A). Needs cmp s.callers x y) i n)
        | AsksFree g w o i ↦
            (let d'' = subst (λ (s : State K A). AreDistinct (claimed s.callers)) i d' in
            elim (moved cmp total one_key s.callers (c - 1) record { chain = (caller_at s.callers c).chain ++ k ∷ []; awaits = None } (λ x y. (last (caller_at s.callers c).chain ≡ Some x) × (y ≡ k)) t.distinct d'' h
            (pushes cmp total one_key s.callers (c - 1) k t.distinct d'' h) x y (subst (λ (s : State K A). Needs cmp s.callers x y) i n)) [
              | inl was ↦ inl was
              | inr new ↦ inr record {
                number = c;
                asks = ap (Ask c) (sym new.1);
                top = new.0;
                apart = subst (λ z. ¬ Reaches (Needs cmp s.callers) z x) (sym new.1) (free_apart s c k x t w new.0);
              }
            ])
        | AsksClaimed w g q j o i ↦
            (let d'' = subst (λ (s : State K A). AreDistinct (claimed s.callers)) i d' in
            elim (moved cmp total one_key s.callers (c - 1) record { chain = (caller_at s.callers c).chain; awaits = Some k } (λ x y. (last (caller_at s.callers c).chain ≡ Some x) × (Some k ≡ Some y)) t.distinct d'' h
            (stays cmp total one_key s.callers (c - 1) (Some k) t.distinct d'' h) x y (subst (λ (s : State K A). Needs cmp s.callers x y) i n)) [
              | inl was ↦ inl was
              | inr new ↦
                  (let same : k ≡ y = (let u : Some k ≡ Some y = new.1 in cc) in
                  inr record {
                    number = c;
                    asks = ap (Ask c) same;
                    top = new.0;
                    apart = subst (λ z. ¬ Reaches (Needs cmp s.callers) z x) same (open_apart s c k x j new.0);
                  })
            ])
      ]
  needs_after s (Publish c a) t f x y n =
      let l = last_exists (caller_at s.callers c).chain f.allowed.1 in
      let i = publish_is cmp s c a l.0 l.1 in
      let d'' = subst (λ (s : State K A). AreDistinct (claimed s.callers)) i (tidy_after cmp total one_key s (Publish c a) t f).distinct in
      let h = within cmp s (Publish c a) f in
      elim (moved cmp total one_key s.callers (c - 1) record { chain = without_last (caller_at s.callers c).chain; awaits = (caller_at s.callers c).awaits } (λ x y. ⊥) t.distinct d'' h
      (pops cmp total one_key s.callers (c - 1) l.0 t.distinct d'' h l.1 f.allowed.0) x y (subst (λ (s : State K A). Needs cmp s.callers x y) i n)) [
        | inl was ↦ inl was
        | inr never ↦ absurd never
      ]
  needs_after s (Look c) t f x y n =
      let k = some_is (caller_at s.callers c).awaits f.allowed in
      let d' = (tidy_after cmp total one_key s (Look c) t f).distinct in
      let h = within cmp s (Look c) f in
      elim (look_view cmp s c k.0 k.1) [
        | LooksKnown a g o i ↦
            (let d'' = subst (λ (s : State K A). AreDistinct (claimed s.callers)) i d' in
            elim (moved cmp total one_key s.callers (c - 1) record { chain = (caller_at s.callers c).chain; awaits = None } (λ x y. (last (caller_at s.callers c).chain ≡ Some x) × (None ≡ Some y)) t.distinct d'' h
            (stays cmp total one_key s.callers (c - 1) None t.distinct d'' h) x y (subst (λ (s : State K A). Needs cmp s.callers x y) i n)) [
              | inl was ↦ inl was
              | inr new ↦ absurd (let u : None ≡ Some y = new.1 in cc)
            ])
        | LooksFree g w o i ↦
            (let d'' = subst (λ (s : State K A). AreDistinct (claimed s.callers)) i d' in
            elim (moved cmp total one_key s.callers (c - 1) record { chain = (caller_at s.callers c).chain ++ k.0 ∷ []; awaits = None } (λ x y. (last (caller_at s.callers c).chain ≡ Some x) × (y ≡ k.0)) t.distinct d'' h
            (pushes cmp total one_key s.callers (c - 1) k.0 t.distinct d'' h) x y (subst (λ (s : State K A). Needs cmp s.callers x y) i n)) [
              | inl was ↦ inl was
              | inr new ↦
                  (let e : (caller_at s.callers c).chain ≡ without_last (caller_at s.callers c).chain ++ x ∷ [] = last_some (caller_at s.callers c).chain x new.0 in
                  inl (need_was cmp total one_key s.callers (c - 1) (without_last (caller_at s.callers c).chain) x [] t.distinct h e
                  ∙ (ap (λ o. first cmp (option_to_list o)) k.1 ∙ ap Some (sym new.1))))
            ])
        | LooksClaimed w g q o i ↦ inl (subst (λ (s : State K A). Needs cmp s.callers x y) i n)
      ]
  needs_after s (Abandon c) t f x y n =
      let d' = (tidy_after cmp total one_key s (Abandon c) t f).distinct in
      elim (moved cmp total one_key s.callers (c - 1) idle (λ x y. ⊥) t.distinct d' (within cmp s (Abandon c) f) (λ x y i _. absurd i) x y n) [
        | inl was ↦ inl was
        | inr never ↦ absurd never
      ]

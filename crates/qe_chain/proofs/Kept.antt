-- What stays as callers change: the keys of all chains differ, and the count is right.
use Rattle.std.proofs.Common.{◌≡◌, ◌≢◌, ◌⊎◌, inl, inr, ℕ, zero, suc, ◌+◌, ◌-◌, ◌^◌, ◌<◌, ◌≤◌, true, false, List, [], ◌∷◌, ◌++◌, length, get_or, set, replicate, Option, Some, None, refl, sym, ◌∙◌, ap, subst, arith}
use Rattle.std.specs.Prelude.{IsSome}
use Rattle.std.specs.Cmp.{IsTotalOrder}
use Rattle.std.specs.declared.cmp.Ordering.{Ordering}
use Rattle.std.specs.declared.cmp.Ordering.TheVariants.{Equal}
use Rattle.std.proofs.lemmas.List.{length-set, length-replicate}
use Rattle.std.proofs.lemmas.List.Sums.{sum_by-set}
use Rattle.def_query.specs.Keys.{IsIn, AreDistinct}
use Rattle.def_query.proofs.Walks.{distinct_push, in_append_cases}
use Rattle.def_core.specs.State.{Caller, idle, caller_at, claimed, without_last}
use Rattle.def_core.specs.Needs.{owner}
use Rattle.def_core.proofs.Lists.{distinct_tail, front_in, length_more, last_exists, last_some}
use Rattle.def_core.proofs.Chains.{chain_distinct, claimed_set, unowned}
use Rattle.def_core.proofs.Closing.{chain_claimed}
use Rattle.qe_chain.specs.Chains.{IsCaller, awaited_count, open_count, IsApart}

-- within a list what stands at a place does not depend on what is told past its end
pub get_any : {X : Type 0} → (xs : List X) (i : ℕ) (d e : X) → i < length xs → get_or xs i d ≡ get_or xs i e
get_any [] i d e h = absurd (omega arith)
get_any (x ∷ xs) zero d e h = refl
get_any (x ∷ xs) (suc i) d e h = get_any xs i d e (omega arith)

pub some_key : {K : Type 0} → (o : Option K) → IsSome o → (k : K) × (o ≡ Some k)
some_key None h = absurd (let f : false ≡ true = h in cc)
some_key (Some k) h = (k, refl)

none_claimed : (K : Type 0) (n : ℕ) → claimed {K = K} (replicate n idle) ≡ []
none_claimed K zero = refl
none_claimed K (suc n) = none_claimed K n

none_open : (K : Type 0) (n : ℕ) → open_count {K = K} (replicate n idle) ≡ 0
none_open K zero = refl
none_open K (suc n) = let e = none_open K n in omega arith

module _ {K : Type 0} where
  -- how much a caller counts
  abbrev pub cost : Caller K → ℕ
  cost c = length c.chain + awaited_count c.awaits

  -- the caller counts in the sum
  cost_within : (items : List (Caller K)) (i : ℕ) → i < length items → cost (get_or items i idle) ≤ open_count items
  cost_within items i h =
      let e = sum_by-set cost items i idle idle h in omega arith

  length_push : (xs : List K) (x : K) → length (xs ++ x ∷ []) ≡ length xs + 1
  length_push xs x = length_more xs (x ∷ [])

  length_front : (xs : List K) → xs ≢ [] → length (without_last xs) + 1 ≡ length xs
  length_front xs h =
      let l = last_exists xs h in
      sym (ap length (last_some xs l.0 l.1) ∙ length_push (without_last xs) l.0)

module _ {K : Type 0} (cmp : K → K → Ordering) (total : IsTotalOrder cmp) where
  pub opened :
      (items : List (Caller K)) (n : ℕ) → ((x y : K) → cmp x y ≡ Equal → x ≡ y) → items ≡ replicate n idle → n < 2 ^ 32
      → IsApart cmp items 0
  opened items n one_key e h =
      subst (λ l. IsApart cmp l 0) (sym e)
      record {
        one_key = one_key;
        distinct = subst AreDistinct (sym (none_claimed K n)) tt;
        few = (let l = length-replicate {A = Caller K} n idle in omega arith);
        counted = sym (none_open K n);
      }

  -- one caller is replaced
  pub replaced :
      (items : List (Caller K)) (i n m : ℕ) (next : Caller K) → IsApart cmp items n → i < length items
      → AreDistinct next.chain
      → ((z : K) → IsIn z next.chain → IsIn z (get_or items i idle).chain ⊎ (¬ IsIn z (claimed items)))
      → m + cost (get_or items i idle) ≡ n + cost next
      → IsApart cmp (set items i next) m
  replaced items i n m next apart h d f e = record {
    one_key = apart.one_key;
    distinct = claimed_set items i next h apart.distinct d f;
    few = (let l = length-set items i next in let w = apart.few in omega arith);
    counted = (let s = sum_by-set cost items i next idle h in let c = apart.counted in omega arith);
  }

  counted_within :
      (items : List (Caller K)) (i n : ℕ) → IsApart cmp items n → i < length items → cost (get_or items i idle) ≤ n
  counted_within items i n apart h = let c = apart.counted in let w = cost_within items i h in omega arith

  module _ (items now : List (Caller K)) (n c : ℕ) (was next : Caller K) (v : items ≡ now)
      (apart : IsApart cmp items n) (is : IsCaller now c)
      (here : was ≡ get_or items (c - 1) was) where
    within : c - 1 < length items
    within = let l = is.least in let g = is.greatest in let e = ap length v in omega arith

    -- the caller that is replaced
    same : get_or items (c - 1) idle ≡ was
    same = get_any items (c - 1) idle was within ∙ sym here

    pub same_now : caller_at now c ≡ was
    same_now = ap (λ l. get_or l (c - 1) idle) (sym v) ∙ same

    distinct_was : AreDistinct was.chain
    distinct_was = subst (λ (w : Caller K). AreDistinct w.chain) same (chain_distinct items (c - 1) apart.distinct)

    kept :
        (m : ℕ) → AreDistinct next.chain
        → ((z : K) → IsIn z next.chain → IsIn z was.chain ⊎ (¬ IsIn z (claimed items))) → m + cost was ≡ n + cost next
        → IsApart cmp (set items (c - 1) next) m
    kept m d f e =
        replaced items (c - 1) n m next apart within d
        (λ z h. elim (f z h) [ inl o ↦ inl (subst (λ (w : Caller K). IsIn z w.chain) (sym same) o) | inr o ↦ inr o ])
        (ap (λ w. m + cost w) same ∙ e)

    cost_was : cost was ≤ n
    cost_was = let w = counted_within items (c - 1) n apart within in let e = ap cost same in omega arith

    unclaimed : (key : K) → owner cmp now key ≡ None → ¬ IsIn key (claimed items)
    unclaimed key e = unowned cmp total apart.one_key items key apart.distinct (ap (λ l. owner cmp l key) v ∙ e)

    pushed : (key : K) → owner cmp now key ≡ None → AreDistinct (was.chain ++ key ∷ [])
    pushed key e =
        distinct_push was.chain key distinct_was
        (λ h. unclaimed key e (chain_claimed items (c - 1) key (subst (λ (w : Caller K). IsIn key w.chain) (sym same) h)))

    pushed_from :
        (key : K) → owner cmp now key ≡ None → (z : K) → IsIn z (was.chain ++ key ∷ [])
        → IsIn z was.chain ⊎ (¬ IsIn z (claimed items))
    pushed_from key e z h =
        elim (in_append_cases z was.chain (key ∷ []) h) [
          | inl i ↦ inl i
          | inr i ↦ elim i [ inl f ↦ inr (subst (λ w. ¬ IsIn w (claimed items)) (sym f) (unclaimed key e)) | inr f ↦ absurd f ]
        ]

    pub claims :
        (key : K) → (caller_at now c).awaits ≡ None → owner cmp now key ≡ None
        → next ≡ record { chain = was.chain ++ key ∷ []; awaits = None }
        → IsApart cmp (set items (c - 1) next) (n + 1)
    claims key free e f =
        let a : was.awaits ≡ None = ap (λ (w : Caller K). w.awaits) (sym same_now) ∙ free in
        let g : cost next ≡ length was.chain + 1 = ap cost f ∙ (let l = length_push was.chain key in omega arith) in
        let h : cost was ≡ length was.chain = ap (λ w. length was.chain + awaited_count w) a ∙ (let z : length was.chain + 0 ≡ length was.chain = omega arith in z) in
        kept (n + 1)
        (subst (λ (w : Caller K). AreDistinct w.chain) (sym f) (pushed key e))
        (λ z i. pushed_from key e z (subst (λ (w : Caller K). IsIn z w.chain) f i))
        (omega arith)

    -- the chain stays, and what is waited for changes
    stays : (m : ℕ) → next.chain ≡ was.chain → m + cost was ≡ n + cost next → IsApart cmp (set items (c - 1) next) m
    stays m e f =
        kept m (subst AreDistinct (sym e) distinct_was) (λ z i. inl (subst (IsIn z) e i)) f

    pub waits :
        (key : K) → (caller_at now c).awaits ≡ None → next ≡ record { chain = was.chain; awaits = Some key }
        → IsApart cmp (set items (c - 1) next) (n + 1)
    waits key free f =
        let a : was.awaits ≡ None = ap (λ (w : Caller K). w.awaits) (sym same_now) ∙ free in
        let g : cost next ≡ length was.chain + 1 = ap cost f in
        let h : cost was ≡ length was.chain + 0 = ap (λ w. length was.chain + awaited_count w) a in
        stays (n + 1) (ap (λ (w : Caller K). w.chain) f) (omega arith)

    some_counts : (o : Option K) → IsSome o → awaited_count o ≡ 1
    some_counts None h = absurd (let f : false ≡ true = h in cc)
    some_counts (Some k) h = refl

    awaiting : IsSome (caller_at now c).awaits → cost was ≡ length was.chain + 1
    awaiting h =
        ap (λ w. length was.chain + w) (some_counts was.awaits (subst (λ (w : Caller K). IsSome w.awaits) same_now h))

    pub stops :
        IsSome (caller_at now c).awaits → next ≡ record { chain = was.chain; awaits = None }
        → IsApart cmp (set items (c - 1) next) (n - 1)
    stops h f =
        let g : cost next ≡ length was.chain + 0 = ap cost f in
        let a = awaiting h in
        let w = cost_was in
        stays (n - 1) (ap (λ (w : Caller K). w.chain) f) (omega arith)

    pub takes_up :
        (key : K) → IsSome (caller_at now c).awaits → owner cmp now key ≡ None
        → next ≡ record { chain = was.chain ++ key ∷ []; awaits = None } → IsApart cmp (set items (c - 1) next) n
    takes_up key h e f =
        let g : cost next ≡ length was.chain + 1 = ap cost f ∙ (let l = length_push was.chain key in omega arith) in
        let a = awaiting h in
        kept n
        (subst (λ (w : Caller K). AreDistinct w.chain) (sym f) (pushed key e))
        (λ z i. pushed_from key e z (subst (λ (w : Caller K). IsIn z w.chain) f i))
        (omega arith)

    pub takes :
        (caller_at now c).chain ≢ [] → next ≡ record { chain = without_last was.chain; awaits = was.awaits }
        → IsApart cmp (set items (c - 1) next) (n - 1)
    takes h f =
        let some : was.chain ≢ [] = λ e. h (ap (λ (w : Caller K). w.chain) same_now ∙ e) in
        let l = length_front was.chain some in
        let g : cost next ≡ length (without_last was.chain) + awaited_count was.awaits = ap cost f in
        let w = cost_was in
        kept (n - 1)
        (subst (λ (w : Caller K). AreDistinct w.chain) (sym f) (distinct_tail was.chain distinct_was))
        (λ z i. inl (front_in was.chain z (subst (λ (w : Caller K). IsIn z w.chain) f i)))
        (omega arith)

    pub clears : (m : ℕ) → m ≡ cost was → next ≡ idle → IsApart cmp (set items (c - 1) next) (n - m)
    clears m e f =
        let g : cost next ≡ 0 + 0 = ap cost f in
        let w = cost_was in
        kept (n - m)
        (subst (λ (w : Caller K). AreDistinct w.chain) (sym f) tt)
        (λ z i. absurd (subst (λ (w : Caller K). IsIn z w.chain) f i))
        (omega arith)

    pub cost_fits : n < 2 ^ 64 → cost was < 2 ^ 64
    cost_fits h = let w = cost_was in omega arith

    pub some_open : IsSome (caller_at now c).awaits → 1 ≤ n
    some_open h = let a = awaiting h in let w = cost_was in omega arith

    pub some_claimed : (caller_at now c).chain ≢ [] → 1 ≤ n
    some_claimed h =
        let some : was.chain ≢ [] = λ e. h (ap (λ (w : Caller K). w.chain) same_now ∙ e) in
        let l = length_front was.chain some in
        let w = cost_was in
        omega arith

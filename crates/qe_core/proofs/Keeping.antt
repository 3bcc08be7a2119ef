-- What the machine keeps.
use Rattle.std.proofs.Common.{◌≡◌, ℕ, zero, suc, ◌+◌, ◌-◌, ◌<◌, ◌≤◌, true, false, List, [], ◌∷◌, ◌++◌, length, replicate, Option, Some, None, refl, sym, ◌∙◌, ap, subst, arith}
use Rattle.std.specs.Prelude.{IsSome, MatchOption, is_some, Result, Ok, Err, IsOk, OnOk}
use Rattle.std.specs.Cmp.{IsTotalOrder}
use Rattle.std.specs.declared.cmp.Ordering.{Ordering}
use Rattle.std.specs.declared.cmp.Ordering.TheVariants.{Equal}
use Rattle.std.proofs.lemmas.List.Sums.{sum_by-set}
use Rattle.def_query.specs.Keys.{IsIn, AreDistinct}
use Rattle.def_query.specs.Map.{get}
use Rattle.def_core.specs.declared.event.Event.TheVariants.{Ask, Publish, Look, Abandon}
use Rattle.def_core.specs.State.{Caller, State, idle, opening, caller_at, with_caller, claimed, last, without_last}
use Rattle.def_core.specs.Needs.{owner}
use Rattle.def_core.specs.declared.outcome.Outcome.TheVariants.{Known, Yours, Wait}
use Rattle.def_core.specs.Replay.{outcome, after, Fits}
use Rattle.def_core.proofs.Lists.{length_more, last_some}
use Rattle.def_core.proofs.Closing.{last_claimed}
use Rattle.def_core.proofs.Events.{IsTidy, with_next, within, publish_is, LookView, LooksKnown, LooksFree, LooksClaimed, look_view}
use Rattle.def_core.proofs.Tidy.{some_is, tidy_opening, tidy_next, tidy_push, tidy_stay, tidy_publish}
use Rattle.qe_rules.specs.Known.{IsSameMap}
use Rattle.qe_chain.specs.Chains.{awaited_count, open_count}
use Rattle.qe_core.specs.Kept.{IsKept}

pub unseen : {X : Type 0} → (o : Option X) (P : Type 0) (Q : X → Type 0) → is_some o ≡ false → MatchOption o P Q → P
unseen None P Q e h = h
unseen (Some x) P Q e h = absurd (let f : true ≡ false = e in cc)

pub on_ok : {T E : Type 0} → (r : Result T E) (P : Type 0) → IsOk r → OnOk r P → P
on_ok (Ok x) P h p = p
on_ok (Err e) P h p = absurd (let f : false ≡ true = h in cc)

none_open : (K : Type 0) (n : ℕ) → open_count {K = K} (replicate n idle) ≡ 0
none_open K zero = refl
none_open K (suc n) = let e = none_open K n in omega arith

module _ {K : Type 0} where
  abbrev cost : Caller K → ℕ
  cost c = length c.chain + awaited_count c.awaits

  some_counts : (o : Option K) → IsSome o → awaited_count o ≡ 1
  some_counts None h = absurd (let f : false ≡ true = h in cc)
  some_counts (Some k) h = refl

  length_push : (xs : List K) (x : K) → length (xs ++ x ∷ []) ≡ length xs + 1
  length_push xs x = length_more xs (x ∷ [])

  module _ (callers : List (Caller K)) (c : ℕ) (h : c - 1 < length callers) where
    -- how much is open after one caller is replaced
    open_after :
        (next : Caller K)
        → open_count (with_caller callers c next) + cost (caller_at callers c) ≡ open_count callers + cost next
    open_after next = sum_by-set cost callers (c - 1) next idle h

    free_cost : (caller_at callers c).awaits ≡ None → cost (caller_at callers c) ≡ length (caller_at callers c).chain + 0
    free_cost e = ap (λ o. length (caller_at callers c).chain + awaited_count o) e

    waiting_cost :
        IsSome (caller_at callers c).awaits → cost (caller_at callers c) ≡ length (caller_at callers c).chain + 1
    waiting_cost e = ap (λ n. length (caller_at callers c).chain + n) (some_counts (caller_at callers c).awaits e)

    open_push :
        (k : K) → (caller_at callers c).awaits ≡ None
        → open_count (with_caller callers c record { chain = (caller_at callers c).chain ++ k ∷ []; awaits = None }) ≡ open_count callers + 1
    open_push k e =
        let a = open_after record { chain = (caller_at callers c).chain ++ k ∷ []; awaits = None } in
        let f = free_cost e in
        let l = length_push (caller_at callers c).chain k in
        omega arith

    open_take_up :
        (k : K) → IsSome (caller_at callers c).awaits
        → open_count (with_caller callers c record { chain = (caller_at callers c).chain ++ k ∷ []; awaits = None }) ≡ open_count callers
    open_take_up k e =
        let a = open_after record { chain = (caller_at callers c).chain ++ k ∷ []; awaits = None } in
        let f = waiting_cost e in
        let l = length_push (caller_at callers c).chain k in
        omega arith

    open_wait :
        (k : K) → (caller_at callers c).awaits ≡ None
        → open_count (with_caller callers c record { chain = (caller_at callers c).chain; awaits = Some k }) ≡ open_count callers + 1
    open_wait k e =
        let a = open_after record { chain = (caller_at callers c).chain; awaits = Some k } in let f = free_cost e in omega arith

    open_stop :
        IsSome (caller_at callers c).awaits
        → open_count (with_caller callers c record { chain = (caller_at callers c).chain; awaits = None }) + 1 ≡ open_count callers
    open_stop e =
        let a = open_after record { chain = (caller_at callers c).chain; awaits = None } in let f = waiting_cost e in omega arith

    open_pop :
        (t : K) → last (caller_at callers c).chain ≡ Some t
        → open_count (with_caller callers c record { chain = without_last (caller_at callers c).chain; awaits = (caller_at callers c).awaits }) + 1 ≡ open_count callers
    open_pop t e =
        let a = open_after record { chain = without_last (caller_at callers c).chain; awaits = (caller_at callers c).awaits } in
        let l : length (caller_at callers c).chain ≡ length (without_last (caller_at callers c).chain) + 1 =
        ap length (last_some (caller_at callers c).chain t e) ∙ length_push (without_last (caller_at callers c).chain) t in
        omega arith

    open_clear : open_count (with_caller callers c idle) ≤ open_count callers
    open_clear = let a = open_after idle in omega arith

pub kept_new :
    {K A : Type 0} → (cmp : K → K → Ordering) (total : IsTotalOrder cmp) (one_key : (x y : K) → cmp x y ≡ Equal → x ≡ y)
    (n spare : ℕ) (pairs : List (K × A)) (callers : List (Caller K)) → pairs ≡ [] → callers ≡ replicate n idle
    → IsKept cmp pairs callers spare
kept_new {K} {A} cmp total one_key n spare pairs callers e f =
    let t : IsTidy {K = K} {A = A} cmp (opening n) = tidy_opening cmp total one_key n in
    let k : IsKept {K = K} {A = A} cmp [] (replicate n idle) spare = record {
      one_key = one_key;
      distinct = t.distinct;
      unpublished = t.unpublished;
      room = (let o = none_open K n in omega arith);
    } in
    subst (λ (p : List (K × A)). IsKept cmp p callers spare) (sym e) (subst (λ l. IsKept {K = K} {A = A} cmp [] l spare) (sym f) k)

module _ {K A : Type 0} (cmp : K → K → Ordering) (total : IsTotalOrder cmp) (s : State K A) (spare : ℕ)
    (kept : IsKept cmp s.published s.callers spare) where
  tidy : IsTidy cmp s
  tidy = record { distinct = kept.distinct; unpublished = kept.unpublished }

  -- what is tidy and has room is kept
  keeps :
      (t : State K A) (pairs : List (K × A)) (callers : List (Caller K)) (more : ℕ) → IsTidy cmp t
      → pairs ≡ t.published → callers ≡ t.callers → open_count t.callers ≤ more → IsKept cmp pairs callers more
  keeps t pairs callers more y e f r =
      let k : IsKept cmp t.published t.callers more = record { one_key = kept.one_key; distinct = y.distinct; unpublished = y.unpublished; room = r } in
      subst (λ p. IsKept cmp p callers more) (sym e) (subst (λ l. IsKept cmp t.published l more) (sym f) k)

  pub asks_free :
      (c : ℕ) (k : K) (pairs : List (K × A)) (callers : List (Caller K)) (more : ℕ) → Fits cmp s (Ask c k)
      → get cmp s.published k ≡ None → owner cmp s.callers k ≡ None → pairs ≡ s.published
      → callers ≡ with_caller s.callers c record { chain = (caller_at s.callers c).chain ++ k ∷ []; awaits = None }
      → open_count s.callers + 1 ≤ more → IsKept cmp pairs callers more
  asks_free c k pairs callers more f g o e w r =
      let h = within cmp s (Ask c k) f in
      let a = open_push s.callers c h k f.allowed in
      keeps (with_next cmp s c record { chain = (caller_at s.callers c).chain ++ k ∷ []; awaits = None }) pairs callers more
      (tidy_push cmp total kept.one_key s c k tidy h g o) e w (omega arith)

  pub asks_claimed :
      (c : ℕ) (k : K) (pairs : List (K × A)) (callers : List (Caller K)) (more : ℕ) → Fits cmp s (Ask c k)
      → pairs ≡ s.published
      → callers ≡ with_caller s.callers c record { chain = (caller_at s.callers c).chain; awaits = Some k }
      → open_count s.callers + 1 ≤ more → IsKept cmp pairs callers more
  asks_claimed c k pairs callers more f e w r =
      let h = within cmp s (Ask c k) f in
      let a = open_wait s.callers c h k f.allowed in
      keeps (with_next cmp s c record { chain = (caller_at s.callers c).chain; awaits = Some k }) pairs callers more
      (tidy_stay cmp total kept.one_key s c (Some k) tidy h) e w (omega arith)

  pub looks_known :
      (c : ℕ) (callers : List (Caller K)) → Fits cmp s (Look c)
      → callers ≡ with_caller s.callers c record { chain = (caller_at s.callers c).chain; awaits = None }
      → IsKept cmp s.published callers spare
  looks_known c callers f w =
      let h = within cmp s (Look c) f in
      let a = open_stop s.callers c h f.allowed in
      let r = kept.room in
      keeps (with_next cmp s c record { chain = (caller_at s.callers c).chain; awaits = None }) s.published callers spare
      (tidy_stay cmp total kept.one_key s c None tidy h) refl w (omega arith)

  pub looks_free :
      (c : ℕ) (callers : List (Caller K)) → Fits cmp s (Look c) → outcome cmp s (Look c) ≡ Yours
      → ((k : K) → (caller_at s.callers c).awaits ≡ Some k → callers ≡ with_caller s.callers c record { chain = (caller_at s.callers c).chain ++ k ∷ []; awaits = None })
      → IsKept cmp s.published callers spare
  looks_free c callers f o w =
      let h = within cmp s (Look c) f in
      let k = some_is (caller_at s.callers c).awaits f.allowed in
      let a = open_take_up s.callers c h k.0 f.allowed in
      let r = kept.room in
      let v : LookView cmp s c k.0 = look_view cmp s c k.0 k.1 in
      let lacks : (get cmp s.published k.0 ≡ None) × (owner cmp s.callers k.0 ≡ None) = unclaimed c k.0 o v in
      keeps (with_next cmp s c record { chain = (caller_at s.callers c).chain ++ k.0 ∷ []; awaits = None }) s.published callers spare
      (tidy_push cmp total kept.one_key s c k.0 tidy h lacks.0 lacks.1) refl (w k.0 k.1) (omega arith)
    where
      unclaimed :
          (c : ℕ) (k : K) → outcome cmp s (Look c) ≡ Yours → LookView cmp s c k
          → (get cmp s.published k ≡ None) × (owner cmp s.callers k ≡ None)
      unclaimed c k o (LooksKnown a g p i) = absurd (let e : Known ≡ Yours = sym p ∙ o in cc)
      unclaimed c k o (LooksFree g q p i) = (g, q)
      unclaimed c k o (LooksClaimed w g q p i) = absurd (let e : Wait w ≡ Yours = sym p ∙ o in cc)

  -- a key that is taken from a chain to be published is not published yet
  pub takes_unpublished : (c : ℕ) (t : K) → last (caller_at s.callers c).chain ≡ Some t → get cmp s.published t ≡ None
  takes_unpublished c t e = kept.unpublished t (last_claimed s.callers c t e)

  pub some_room :
      (c : ℕ) (a : A) (t : K) → Fits cmp s (Publish c a) → last (caller_at s.callers c).chain ≡ Some t → 0 < spare
  some_room c a t f e =
      let o = open_pop s.callers c (within cmp s (Publish c a) f) t e in let r = kept.room in omega arith

  pub publishes :
      (c : ℕ) (a : A) (t : K) (pairs : List (K × A)) (callers : List (Caller K)) (more : ℕ) → Fits cmp s (Publish c a)
      → last (caller_at s.callers c).chain ≡ Some t → IsSameMap cmp pairs ((t, a) ∷ s.published)
      → callers ≡ with_caller s.callers c record { chain = without_last (caller_at s.callers c).chain; awaits = (caller_at s.callers c).awaits }
      → spare ≤ more + 1 → IsKept cmp pairs callers more
  publishes c a t pairs callers more f e same w r =
      let h = within cmp s (Publish c a) f in
      let o = open_pop s.callers c h t e in
      let q = kept.room in
      let y : IsTidy cmp (after cmp s (Publish c a)) = tidy_publish cmp total kept.one_key s c a t tidy h e in
      let g : callers ≡ (after cmp s (Publish c a)).callers = w in
      let b : open_count callers ≤ more = (let z = ap open_count w in omega arith) in
      record {
        one_key = kept.one_key;
        distinct = subst (λ l. AreDistinct (claimed l)) (sym g) y.distinct;
        unpublished = λ k i.
            same k ∙ (ap (λ (s : State K A). get cmp s.published k) (sym (publish_is cmp s c a t e)) ∙ y.unpublished k (subst (λ l. IsIn k (claimed l)) g i));
        room = b;
      }

  pub abandons :
      (c : ℕ) (callers : List (Caller K)) → Fits cmp s (Abandon c) → callers ≡ with_caller s.callers c idle
      → IsKept cmp s.published callers spare
  abandons c callers f w =
      let h = within cmp s (Abandon c) f in
      let a = open_clear s.callers c h in
      let r = kept.room in
      keeps (with_next cmp s c idle) s.published callers spare
      (tidy_next cmp total kept.one_key s c idle tidy h tt (λ z i. absurd i)) refl w (omega arith)

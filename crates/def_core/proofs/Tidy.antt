-- Every event keeps the keys of all chains apart from each other and from what is published.
use Rattle.std.proofs.Common.{◌≡◌, ◌⊎◌, inl, inr, ℕ, zero, suc, ◌-◌, ◌<◌, true, false, List, [], ◌∷◌, ◌++◌, length, replicate, Option, Some, None, refl, sym, ◌∙◌, ap, subst}
use Rattle.std.specs.Prelude.{IsSome}
use Rattle.std.specs.Cmp.{IsTotalOrder}
use Rattle.std.specs.declared.cmp.Ordering.{Ordering}
use Rattle.std.specs.declared.cmp.Ordering.TheVariants.{Equal}
use Rattle.def_query.specs.Keys.{IsIn, AreDistinct}
use Rattle.def_query.specs.Map.{get}
use Rattle.def_query.proofs.Maps.{get_there}
use Rattle.def_query.proofs.Walks.{distinct_push, distinct_apart, in_append_cases}
use Rattle.def_core.specs.declared.event.Event.{Event}
use Rattle.def_core.specs.declared.event.Event.TheVariants.{Ask, Publish, Look, Abandon}
use Rattle.def_core.specs.State.{Caller, State, idle, opening, caller_at, with_caller, claimed, last, without_last}
use Rattle.def_core.specs.Needs.{owner}
use Rattle.def_core.specs.Replay.{after, Fits}
use Rattle.def_core.proofs.Lists.{last_exists, last_some, last_in, front_in, distinct_tail}
use Rattle.def_core.proofs.Chains.{chain_distinct, claimed_set, claimed_in_set, unowned, claimed_holds, held_set, one_holder}
use Rattle.def_core.proofs.Closing.{chain_claimed}
use Rattle.def_core.proofs.Events.{AsksKnown, AsksFree, AsksCircle, AsksClaimed, ask_view, LooksKnown, LooksFree, LooksClaimed, look_view, publish_is, IsTidy, with_next, within}

pub some_is : {X : Type 0} → (o : Option X) → IsSome o → (x : X) × (o ≡ Some x)
some_is None h = absurd (let f : false ≡ true = h in cc)
some_is (Some x) h = (x, refl)

pub none_claimed : (K : Type 0) (n : ℕ) → claimed {K = K} (replicate n idle) ≡ []
none_claimed K zero = refl
none_claimed K (suc n) = none_claimed K n

-- the last key of a chain that loses it is in no other chain
pub last_gone :
    {K : Type 0} → (callers : List (Caller K)) (c : ℕ) (t : K) (o : Option K) → AreDistinct (claimed callers)
    → c - 1 < length callers
    → last (caller_at callers c).chain ≡ Some t
    → ¬ IsIn t (claimed (with_caller callers c record { chain = without_last (caller_at callers c).chain; awaits = o }))
last_gone {K} callers c t o d h e i =
    let chain : List K = (caller_at callers c).chain in
    let next : Caller K = record { chain = without_last chain; awaits = o } in
    let r = claimed_holds (with_caller callers c next) t i in
    elim (held_set callers (c - 1) r.0 next t h r.1) [
      | inl q ↦ distinct_apart (without_last chain) t (subst AreDistinct (last_some chain t e) (chain_distinct callers (c - 1) d)) q.1
      | inr q ↦ q.0 (one_holder callers r.0 (c - 1) t d q.1 record { within = h; has = last_in chain t e })
    ]

module _ {K A : Type 0} (cmp : K → K → Ordering) (total : IsTotalOrder cmp)
    (one_key : (x y : K) → cmp x y ≡ Equal → x ≡ y) where
  pub tidy_opening : (n : ℕ) → IsTidy {K = K} {A = A} cmp (opening n)
  tidy_opening n = record {
    distinct = subst AreDistinct (sym (none_claimed K n)) tt;
    unpublished = λ k h. refl;
  }

  -- one caller is replaced
  pub tidy_next :
      (s : State K A) (c : ℕ) (next : Caller K) → IsTidy cmp s → c - 1 < length s.callers → AreDistinct next.chain
      → ((z : K) → IsIn z next.chain → IsIn z (caller_at s.callers c).chain ⊎ ((¬ IsIn z (claimed s.callers)) × (get cmp s.published z ≡ None)))
      → IsTidy cmp (with_next cmp s c next)
  tidy_next s c next t h d f = record {
    distinct =
        claimed_set s.callers (c - 1) next h t.distinct d (λ z i. elim (f z i) [ inl o ↦ inl o | inr o ↦ inr o.0 ]);
    unpublished = λ k i. elim (claimed_in_set s.callers (c - 1) next k h i) [
      | inl j ↦ elim (f k j) [
        | inl o ↦ t.unpublished k (chain_claimed s.callers (c - 1) k o)
        | inr o ↦ o.1
      ]
      | inr j ↦ t.unpublished k j
    ];
  }

  -- a key that nobody has claimed is put behind a chain
  pub tidy_push :
      (s : State K A) (c : ℕ) (k : K) → IsTidy cmp s → c - 1 < length s.callers → get cmp s.published k ≡ None
      → owner cmp s.callers k ≡ None
      → IsTidy cmp (with_next cmp s c record { chain = (caller_at s.callers c).chain ++ k ∷ []; awaits = None })
  tidy_push s c k t h lacks free =
      let u : ¬ IsIn k (claimed s.callers) = unowned cmp total one_key s.callers k t.distinct free in
      tidy_next s c record { chain = (caller_at s.callers c).chain ++ k ∷ []; awaits = None } t h
      (distinct_push (caller_at s.callers c).chain k (chain_distinct s.callers (c - 1) t.distinct) (λ i. u (chain_claimed s.callers (c - 1) k i)))
      (λ z i. elim (in_append_cases z (caller_at s.callers c).chain (k ∷ []) i) [
        | inl j ↦ inl j
        | inr j ↦ elim j [
          | inl e ↦ inr ((λ q. u (subst (λ w. IsIn w (claimed s.callers)) e q)), ap (get cmp s.published) e ∙ lacks)
          | inr n ↦ absurd n
        ]
      ])

  -- a chain stays
  pub tidy_stay :
      (s : State K A) (c : ℕ) (o : Option K) → IsTidy cmp s → c - 1 < length s.callers
      → IsTidy cmp (with_next cmp s c record { chain = (caller_at s.callers c).chain; awaits = o })
  tidy_stay s c o t h =
      tidy_next s c record { chain = (caller_at s.callers c).chain; awaits = o } t h (chain_distinct s.callers (c - 1) t.distinct) (λ z i. inl i)

  pub tidy_publish :
      (s : State K A) (c : ℕ) (a : A) (t : K) → IsTidy cmp s → c - 1 < length s.callers
      → last (caller_at s.callers c).chain ≡ Some t → IsTidy cmp (after cmp s (Publish c a))
  tidy_publish s c a t tidy h e =
      let chain : List K = (caller_at s.callers c).chain in
      let next : Caller K = record { chain = without_last chain; awaits = (caller_at s.callers c).awaits } in
      let p : IsTidy cmp (with_next cmp s c next) =
      tidy_next s c next tidy h (distinct_tail chain (chain_distinct s.callers (c - 1) tidy.distinct)) (λ z i. inl (front_in chain z i)) in
      subst (IsTidy cmp) (sym (publish_is cmp s c a t e))
      record {
        distinct = p.distinct;
        unpublished = λ k i.
            get_there cmp total one_key t k a s.published
            (λ f. last_gone s.callers c t (caller_at s.callers c).awaits tidy.distinct h e (subst (λ z. IsIn z (claimed (with_caller s.callers c next))) f i))
            ∙ p.unpublished k i;
      }

  -- every event that fits keeps this
  pub tidy_after : (s : State K A) (e : Event K A) → IsTidy cmp s → Fits cmp s e → IsTidy cmp (after cmp s e)
  tidy_after s (Ask c k) t f =
      elim (ask_view cmp s c k) [
        | AsksKnown a g o i ↦ subst (IsTidy cmp) (sym i) t
        | AsksFree g w o i ↦ subst (IsTidy cmp) (sym i) (tidy_push s c k t (within cmp s (Ask c k) f) g w)
        | AsksCircle w y g h j o i ↦ subst (IsTidy cmp) (sym i) t
        | AsksClaimed w g h j o i ↦ subst (IsTidy cmp) (sym i) (tidy_stay s c (Some k) t (within cmp s (Ask c k) f))
      ]
  tidy_after s (Publish c a) t f =
      let l = last_exists (caller_at s.callers c).chain f.allowed.1 in
      tidy_publish s c a l.0 t (within cmp s (Publish c a) f) l.1
  tidy_after s (Look c) t f =
      let k = some_is (caller_at s.callers c).awaits f.allowed in
      elim (look_view cmp s c k.0 k.1) [
        | LooksKnown a g o i ↦ subst (IsTidy cmp) (sym i) (tidy_stay s c None t (within cmp s (Look c) f))
        | LooksFree g w o i ↦ subst (IsTidy cmp) (sym i) (tidy_push s c k.0 t (within cmp s (Look c) f) g w)
        | LooksClaimed w g h o i ↦ subst (IsTidy cmp) (sym i) t
      ]
  tidy_after s (Abandon c) t f =
      tidy_next s c idle t (within cmp s (Abandon c) f) tt (λ z i. absurd i)

-- Where keys are claimed, and what their current needs are.
use Rattle.std.proofs.Common.{◌≡◌, ◌≢◌, ◌⊎◌, inl, inr, ℕ, zero, suc, ◌+◌, ◌<◌, true, false, cond, ◌||◌, List, [], ◌∷◌, ◌++◌, length, get_or, set, Some, None, refl, sym, ◌∙◌, ap, subst, arith}
use Rattle.std.specs.Cmp.{IsTotalOrder}
use Rattle.std.specs.Prelude.{option_to_list}
use Rattle.std.specs.Ordering.{is_eq}
use Rattle.std.specs.declared.cmp.Ordering.{Ordering}
use Rattle.std.specs.declared.cmp.Ordering.TheVariants.{Equal}
use Rattle.std.proofs.lemmas.Cmp.{tied_itself}
use Rattle.def_query.specs.Keys.{IsIn, AreDistinct}
use Rattle.def_query.proofs.Maps.{Same, Apart, compared}
use Rattle.def_query.proofs.Walks.{in_append_left, in_append_right, in_append_cases, distinct_from, distinct_front}
use Rattle.def_core.specs.State.{Caller, idle, claimed}
use Rattle.def_core.specs.Needs.{is_in, owner_from, owner, first, behind, need}
use Rattle.def_core.proofs.Lists.{At, at_place, append_more, distinct_swap, distinct_not_both, in_mid}

module _ {K : Type 0} where
  -- the caller at this place, counted from 0, has claimed the key
  pub record Holds (callers : List (Caller K)) (i : ℕ) (k : K) : Type 0 where
    pub within : i < length callers
    pub has : IsIn k (get_or callers i idle).chain

  pub claimed_append : (xs ys : List (Caller K)) → claimed (xs ++ ys) ≡ claimed xs ++ claimed ys
  claimed_append [] ys = refl
  claimed_append (x ∷ xs) ys =
      ap (λ w. x.chain ++ w) (claimed_append xs ys) ∙ sym (append_more x.chain (claimed xs) (claimed ys))

  -- the claimed keys around one caller
  pub claimed_at :
      (xs : List (Caller K)) (x : Caller K) (ys : List (Caller K))
      → claimed (xs ++ x ∷ ys) ≡ claimed xs ++ (x.chain ++ claimed ys)
  claimed_at xs x ys = claimed_append xs (x ∷ ys)

  pub holds_claimed : (callers : List (Caller K)) (i : ℕ) (k : K) → Holds callers i k → IsIn k (claimed callers)
  holds_claimed [] i k h = absurd (let w : i < 0 = h.within in omega arith)
  holds_claimed (c ∷ callers) zero k h = in_append_left k c.chain (claimed callers) h.has
  holds_claimed (c ∷ callers) (suc i) k h =
      in_append_right k c.chain (claimed callers)
      (holds_claimed callers i k record { within = (let w : suc i < length (c ∷ callers) = h.within in omega arith); has = h.has })

  pub claimed_holds : (callers : List (Caller K)) (k : K) → IsIn k (claimed callers) → (i : ℕ) × Holds callers i k
  claimed_holds [] k h = absurd h
  claimed_holds (c ∷ callers) k h =
      elim (in_append_cases k c.chain (claimed callers) h) [
        | inl i ↦ (0, record { within = omega arith; has = i })
        | inr i ↦
            (let r = claimed_holds callers k i in
            (suc r.0, record { within = (let w : r.0 < length callers = r.1.within in omega arith); has = r.1.has }))
      ]

  -- one caller alone has claimed a key
  pub one_holder :
      (callers : List (Caller K)) (i j : ℕ) (k : K) → AreDistinct (claimed callers)
      → Holds callers i k → Holds callers j k → i ≡ j
  one_holder [] i j k d h g = absurd (let w : i < 0 = h.within in omega arith)
  one_holder (c ∷ callers) zero zero k d h g = refl
  one_holder (c ∷ callers) zero (suc j) k d h g =
      absurd (distinct_not_both c.chain (claimed callers) d k h.has (holds_claimed callers j k record { within = (let w : suc j < length (c ∷ callers) = g.within in omega arith); has = g.has }))
  one_holder (c ∷ callers) (suc i) zero k d h g =
      absurd (distinct_not_both c.chain (claimed callers) d k g.has (holds_claimed callers i k record { within = (let w : suc i < length (c ∷ callers) = h.within in omega arith); has = h.has }))
  one_holder (c ∷ callers) (suc i) (suc j) k d h g =
      ap suc (one_holder callers i j k (distinct_from c.chain (claimed callers) d)
      record { within = (let w : suc i < length (c ∷ callers) = h.within in omega arith); has = h.has }
      record { within = (let w : suc j < length (c ∷ callers) = g.within in omega arith); has = g.has })

  -- the keys of one chain are distinct
  pub chain_distinct :
      (callers : List (Caller K)) (i : ℕ) → AreDistinct (claimed callers) → AreDistinct (get_or callers i idle).chain
  chain_distinct [] i d = tt
  chain_distinct (c ∷ callers) zero d = distinct_front c.chain (claimed callers) d
  chain_distinct (c ∷ callers) (suc i) d = chain_distinct callers i (distinct_from c.chain (claimed callers) d)

  -- one caller's chain is replaced by distinct keys that nobody else has claimed
  pub claimed_set :
      (callers : List (Caller K)) (i : ℕ) (next : Caller K) → i < length callers
      → AreDistinct (claimed callers) → AreDistinct next.chain
      → ((z : K) → IsIn z next.chain → IsIn z (get_or callers i idle).chain ⊎ (¬ IsIn z (claimed callers)))
      → AreDistinct (claimed (set callers i next))
  claimed_set callers i next h d dn f =
      let a : At callers i idle = at_place callers i idle h in
      let old : Caller K = get_or callers i idle in
      let e : claimed callers ≡ claimed a.before ++ (old.chain ++ claimed a.behind) =
      ap claimed a.is ∙ claimed_at a.before old a.behind in
      let g : claimed (set callers i next) ≡ claimed a.before ++ (next.chain ++ claimed a.behind) =
      ap claimed (a.set_is next) ∙ claimed_at a.before next a.behind in
      subst AreDistinct (sym g)
      (distinct_swap (claimed a.before) old.chain next.chain (claimed a.behind) (subst AreDistinct e d) dn
      (λ z k. elim (f z k) [ inl o ↦ inl o | inr o ↦ inr (λ q. o (subst (IsIn z) (sym e) q)) ]))

  -- who has claimed what, where one caller is replaced
  pub held_set :
      (callers : List (Caller K)) (i j : ℕ) (next : Caller K) (k : K) → i < length callers
      → Holds (set callers i next) j k → ((j ≡ i) × IsIn k next.chain) ⊎ ((j ≢ i) × Holds callers j k)
  held_set [] i j next k h g = absurd (omega arith)
  held_set (c ∷ callers) zero zero next k h g = inl (refl, g.has)
  held_set (c ∷ callers) zero (suc j) next k h g =
      inr ((λ e. absurd (let f : suc j ≡ 0 = e in omega arith)), record { within = g.within; has = g.has })
  held_set (c ∷ callers) (suc i) zero next k h g =
      inr ((λ e. absurd (let f : 0 ≡ suc i = e in omega arith)), record { within = omega arith; has = g.has })
  held_set (c ∷ callers) (suc i) (suc j) next k h g =
      elim (held_set callers i j next k (omega arith) record { within = (let w : suc j < length (c ∷ set callers i next) = g.within in omega arith); has = g.has }) [
        | inl e ↦ inl (ap suc e.0, e.1)
        | inr e ↦ inr ((λ f. e.0 (let q : suc j ≡ suc i = f in omega arith)), record { within = (let w : j < length callers = e.1.within in omega arith); has = e.1.has })
      ]

  pub claimed_in_set :
      (callers : List (Caller K)) (i : ℕ) (next : Caller K) (k : K) → i < length callers
      → IsIn k (claimed (set callers i next)) → IsIn k next.chain ⊎ IsIn k (claimed callers)
  claimed_in_set callers i next k h g =
      let r = claimed_holds (set callers i next) k g in
      elim (held_set callers i r.0 next k h r.1) [
        | inl e ↦ inl e.1
        | inr e ↦ inr (holds_claimed callers r.0 k e.1)
      ]

module _ {K : Type 0} (cmp : K → K → Ordering) (total : IsTotalOrder cmp)
    (one_key : (x y : K) → cmp x y ≡ Equal → x ≡ y) where
  pub is_in_true : (k : K) (xs : List K) → IsIn k xs → is_in cmp k xs ≡ true
  is_in_true k [] h = absurd h
  is_in_true k (x ∷ xs) h =
      elim (compared cmp total one_key k x) [
        | Same e t ↦ ap (λ b. b || is_in cmp k xs) t
        | Apart a t ↦ elim h [
          | inl e ↦ absurd (a e)
          | inr g ↦ ap (λ b. b || is_in cmp k xs) t ∙ is_in_true k xs g
        ]
      ]

  pub is_in_false : (k : K) (xs : List K) → ¬ IsIn k xs → is_in cmp k xs ≡ false
  is_in_false k [] h = refl
  is_in_false k (x ∷ xs) h =
      elim (compared cmp total one_key k x) [
        | Same e t ↦ absurd (h (inl e))
        | Apart a t ↦ ap (λ b. b || is_in cmp k xs) t ∙ is_in_false k xs (λ g. h (inr g))
      ]

  -- a list has a key or lacks it, and the test says which
  pub data Found (k : K) (xs : List K) : Type 0 where
    Has : IsIn k xs → is_in cmp k xs ≡ true → Found k xs
    Lacks : ¬ IsIn k xs → is_in cmp k xs ≡ false → Found k xs

  pub found : (k : K) (xs : List K) → Found k xs
  found k [] = Lacks (λ h. h) refl
  found k (x ∷ xs) =
      elim (compared cmp total one_key k x) [
        | Same e t ↦ Has (inl e) (is_in_true k (x ∷ xs) (inl e))
        | Apart a t ↦ elim (found k xs) [
          | Has h u ↦ Has (inr h) (is_in_true k (x ∷ xs) (inr h))
          | Lacks h u ↦
              (let n : ¬ IsIn k (x ∷ xs) = λ g. elim g [ inl e ↦ a e | inr q ↦ h q ] in
              Lacks n (is_in_false k (x ∷ xs) n))
        ]
      ]

  pub found_true : (k : K) (xs : List K) → is_in cmp k xs ≡ true → IsIn k xs
  found_true k xs e =
      elim (found k xs) [ Has h _ ↦ h | Lacks h f ↦ absurd (let g : true ≡ false = sym e ∙ f in cc) ]

  -- owners
  pub owner_from_holds :
      (n i : ℕ) (callers : List (Caller K)) (k : K) → AreDistinct (claimed callers) → Holds callers i k
      → owner_from cmp n callers k ≡ Some (n + i)
  owner_from_holds n i [] k d h = absurd (let w : i < 0 = h.within in omega arith)
  owner_from_holds n zero (c ∷ callers) k d h =
      ap (λ b. cond b (Some n) (owner_from cmp (suc n) callers k)) (is_in_true k c.chain h.has) ∙ ap Some (let e : n ≡ n + 0 = omega arith in e)
  owner_from_holds n (suc i) (c ∷ callers) k d h =
      let g : Holds callers i k = record { within = (let w : suc i < length (c ∷ callers) = h.within in omega arith); has = h.has } in
      ap (λ b. cond b (Some n) (owner_from cmp (suc n) callers k))
      (is_in_false k c.chain (λ q. distinct_not_both c.chain (claimed callers) d k q (holds_claimed callers i k g)))
      ∙ (owner_from_holds (suc n) i callers k (distinct_from c.chain (claimed callers) d) g
      ∙ ap Some (let e : suc n + i ≡ n + suc i = omega arith in e))

  pub owner_holds :
      (i : ℕ) (callers : List (Caller K)) (k : K) → AreDistinct (claimed callers) → Holds callers i k
      → owner cmp callers k ≡ Some (i + 1)
  owner_holds i callers k d h = owner_from_holds 1 i callers k d h ∙ ap Some (let e : 1 + i ≡ i + 1 = omega arith in e)

  owner_from_none :
      (n : ℕ) (callers : List (Caller K)) (k : K) → ¬ IsIn k (claimed callers) → owner_from cmp n callers k ≡ None
  owner_from_none n [] k h = refl
  owner_from_none n (c ∷ callers) k h =
      ap (λ b. cond b (Some n) (owner_from cmp (suc n) callers k)) (is_in_false k c.chain (λ q. h (in_append_left k c.chain (claimed callers) q)))
      ∙ owner_from_none (suc n) callers k (λ q. h (in_append_right k c.chain (claimed callers) q))

  pub owner_none : (callers : List (Caller K)) (k : K) → ¬ IsIn k (claimed callers) → owner cmp callers k ≡ None
  owner_none callers k h = owner_from_none 1 callers k h

  -- a key is claimed by one caller, or by nobody
  pub data Owned (callers : List (Caller K)) (k : K) : Type 0 where
    By : (i : ℕ) → Holds callers i k → owner cmp callers k ≡ Some (i + 1) → Owned callers k
    Free : ¬ IsIn k (claimed callers) → owner cmp callers k ≡ None → Owned callers k

  pub owned : (callers : List (Caller K)) (k : K) → AreDistinct (claimed callers) → Owned callers k
  owned callers k d =
      elim (found k (claimed callers)) [
        | Has h _ ↦ (let r = claimed_holds callers k h in By r.0 r.1 (owner_holds r.0 callers k d r.1))
        | Lacks h _ ↦ Free h (owner_none callers k h)
      ]

  pub unowned :
      (callers : List (Caller K)) (k : K) → AreDistinct (claimed callers) → owner cmp callers k ≡ None
      → ¬ IsIn k (claimed callers)
  unowned callers k d e =
      elim (owned callers k d) [
        | By i h f ↦ absurd (let g : Some (i + 1) ≡ None = sym f ∙ e in cc)
        | Free h _ ↦ h
      ]

  -- needs
  pub behind_at : (xs : List K) (k : K) (ys : List K) → ¬ IsIn k xs → behind cmp (xs ++ k ∷ ys) k ≡ first cmp ys
  behind_at [] k ys h = ap (λ b. cond b (first cmp ys) (behind cmp ys k)) (ap is_eq (tied_itself total k))
  behind_at (x ∷ xs) k ys h =
      elim (compared cmp total one_key k x) [
        | Same e _ ↦ absurd (h (inl e))
        | Apart _ t ↦ ap (λ b. cond b (first cmp (xs ++ k ∷ ys)) (behind cmp (xs ++ k ∷ ys) k)) t ∙ behind_at xs k ys (λ g. h (inr g))
      ]

  pub need_free : (callers : List (Caller K)) (k : K) → ¬ IsIn k (claimed callers) → need cmp callers k ≡ None
  need_free [] k h = refl
  need_free (c ∷ callers) k h =
      ap (λ b. cond b (behind cmp (c.chain ++ option_to_list c.awaits) k) (need cmp callers k)) (is_in_false k c.chain (λ q. h (in_append_left k c.chain (claimed callers) q)))
      ∙ need_free callers k (λ q. h (in_append_right k c.chain (claimed callers) q))

  need_holds :
      (i : ℕ) (callers : List (Caller K)) (k : K) → AreDistinct (claimed callers) → Holds callers i k
      → need cmp callers k ≡ behind cmp ((get_or callers i idle).chain ++ option_to_list (get_or callers i idle).awaits) k
  need_holds i [] k d h = absurd (let w : i < 0 = h.within in omega arith)
  need_holds zero (c ∷ callers) k d h =
      ap (λ b. cond b (behind cmp (c.chain ++ option_to_list c.awaits) k) (need cmp callers k)) (is_in_true k c.chain h.has)
  need_holds (suc i) (c ∷ callers) k d h =
      let g : Holds callers i k = record { within = (let w : suc i < length (c ∷ callers) = h.within in omega arith); has = h.has } in
      ap (λ b. cond b (behind cmp (c.chain ++ option_to_list c.awaits) k) (need cmp callers k))
      (is_in_false k c.chain (λ q. distinct_not_both c.chain (claimed callers) d k q (holds_claimed callers i k g)))
      ∙ need_holds i callers k (distinct_from c.chain (claimed callers) d) g

  -- the current need of a key that stands in a chain between others
  pub need_at :
      (i : ℕ) (callers : List (Caller K)) (xs : List K) (k : K) (ys : List K) → AreDistinct (claimed callers)
      → i < length callers → (get_or callers i idle).chain ≡ xs ++ k ∷ ys
      → need cmp callers k ≡ first cmp (ys ++ option_to_list (get_or callers i idle).awaits)
  need_at i callers xs k ys d h e =
      let w : List K = option_to_list (get_or callers i idle).awaits in
      let dc : AreDistinct (xs ++ k ∷ ys) = subst AreDistinct e (chain_distinct callers i d) in
      need_holds i callers k d record { within = h; has = subst (IsIn k) (sym e) (in_mid xs k ys) }
      ∙ (ap (λ l. behind cmp (l ++ w) k) e
      ∙ (ap (λ l. behind cmp l k) (append_more xs (k ∷ ys) w)
      ∙ behind_at xs k (ys ++ w) (λ q. distinct_not_both xs (k ∷ ys) dc k q (inl refl))))

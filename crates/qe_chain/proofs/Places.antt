-- Places of keys in chains.
use Rattle.std.proofs.Common.{◌≡◌, inl, inr, ℕ, zero, suc, ◌+◌, ◌-◌, ◌<◌, ◌≤◌, ◌^◌, ◌==◌, true, false, ◌||◌, List, [], ◌∷◌, ◌++◌, length, get_or, take, drop, Option, Some, None, refl, sym, ◌∙◌, ap, subst, arith}
use Rattle.std.specs.Prelude.{option_to_list, MatchOption}
use Rattle.std.specs.Cmp.{IsTotalOrder}
use Rattle.std.specs.Ordering.{eq_by_cmp, is_eq}
use Rattle.std.specs.declared.cmp.Ordering.{Ordering}
use Rattle.std.specs.declared.cmp.Ordering.TheVariants.{Less, Equal, Greater}
use Rattle.def_query.specs.Keys.{IsIn}
use Rattle.def_core.specs.State.{Caller, idle, last}
use Rattle.def_core.specs.Needs.{owner, owner_from, is_in, need, first}
use Rattle.def_core.proofs.Chains.{Holds, owner_holds, need_at}
use Rattle.qe_chain.specs.declared.place.Place.{Place}
use Rattle.qe_chain.specs.Chains.{key_at, IsWithin, IsPlace, IsApart, GoesOn}
use Rattle.qe_chain.proofs.Kept.{get_any}

pub tests_equal : (o : Ordering) → is_eq o ≡ true → o ≡ Equal
tests_equal Less e = let e' : false ≡ true = e in absurd (cc)
tests_equal Equal e = refl
tests_equal Greater e = let e' : false ≡ true = e in absurd (cc)

last_some_at : {X : Type 0} → (xs : List X) (d : X) → 0 < length xs → last xs ≡ Some (get_or xs (length xs - 1) d)
last_some_at [] d h = absurd (omega arith)
last_some_at (x ∷ []) d h = refl
last_some_at (x ∷ y ∷ xs) d h =
    let e : length (x ∷ y ∷ xs) - 1 ≡ suc (length (y ∷ xs) - 1) = omega arith in
    last_some_at (y ∷ xs) d (omega arith) ∙ ap (λ n. Some (get_or (x ∷ y ∷ xs) n d)) (sym e)

-- the last element of a list that is not empty
pub last_read :
    {X : Type 0} → (xs : List X) (x : X) → false ≡ (length xs == 0) → x ≡ get_or xs (length xs - 1) x
    → last xs ≡ Some x
last_read [] x h e = let f : false ≡ true = h in absurd (cc)
last_read (y ∷ xs) x h e = last_some_at (y ∷ xs) x (omega arith) ∙ ap Some (sym e)

split_at :
    {X : Type 0} → (xs : List X) (i : ℕ) (d : X) → i < length xs → xs ≡ take i xs ++ get_or xs i d ∷ drop (suc i) xs
split_at [] i d h = absurd (omega arith)
split_at (x ∷ xs) zero d h = refl
split_at (x ∷ xs) (suc i) d h = ap (λ w. x ∷ w) (split_at xs i d (omega arith))

get_in : {X : Type 0} → (xs : List X) (i : ℕ) (d : X) → i < length xs → IsIn (get_or xs i d) xs
get_in [] i d h = absurd (omega arith)
get_in (x ∷ xs) zero d h = inl refl
get_in (x ∷ xs) (suc i) d h = inr (get_in xs i d (omega arith))

first_behind :
    {X : Type 0} → (xs : List X) (i : ℕ) (d : X) → suc i < length xs
    → drop (suc i) xs ≡ get_or xs (suc i) d ∷ drop (suc (suc i)) xs
first_behind [] i d h = absurd (omega arith)
first_behind (x ∷ []) i d h = absurd (omega arith)
first_behind (x ∷ y ∷ xs) zero d h = refl
first_behind (x ∷ y ∷ xs) (suc i) d h = first_behind (y ∷ xs) i d (omega arith)

nothing_behind : {X : Type 0} → (xs : List X) (i : ℕ) → length xs ≤ suc i → drop (suc i) xs ≡ []
nothing_behind [] i h = refl
nothing_behind (x ∷ []) zero h = refl
nothing_behind (x ∷ []) (suc i) h = refl
nothing_behind (x ∷ y ∷ xs) zero h = absurd (omega arith)
nothing_behind (x ∷ y ∷ xs) (suc i) h = nothing_behind (y ∷ xs) i (omega arith)

module _ {K : Type 0} (cmp : K → K → Ordering) where
  -- a list whose keys are all compared as different lacks the key
  pub all_apart :
      (k : K) (xs : List K) → ((i : ℕ) (d : K) → i < length xs → eq_by_cmp cmp k (get_or xs i d) ≡ false)
      → is_in cmp k xs ≡ false
  all_apart k [] h = refl
  all_apart k (x ∷ xs) h =
      ap (λ b. b || is_in cmp k xs) (h 0 x (omega arith)) ∙ all_apart k xs (λ i d l. h (suc i) d (omega arith))

  no_owner_from :
      (n : ℕ) (k : K) (callers : List (Caller K))
      → ((j : ℕ) → j < length callers → is_in cmp k (get_or callers j idle).chain ≡ false)
      → owner_from cmp n callers k ≡ None
  no_owner_from n k [] h = refl
  no_owner_from n k (c ∷ callers) h =
      rw (h 0 (omega arith)) (no_owner_from (suc n) k callers (λ j l. h (suc j) (omega arith)))

  -- nobody has claimed a key that stands in no chain
  pub no_owner :
      (k : K) (callers : List (Caller K))
      → ((j : ℕ) → j < length callers → is_in cmp k (get_or callers j idle).chain ≡ false)
      → owner cmp callers k ≡ None
  no_owner k callers h = no_owner_from 1 k callers h

  module _ (total : IsTotalOrder cmp) (callers : List (Caller K)) (n : ℕ) (apart : IsApart cmp callers n) where
    held : (k : K) (p : Place) → IsPlace callers k p → Holds callers p.caller k
    held k p h = record {
      within = h.within.caller;
      has =
          subst (λ z. IsIn z (get_or callers p.caller idle).chain) (h.key k) (get_in (get_or callers p.caller idle).chain p.index k h.within.index);
    }

    pub place_owner : (k : K) (p : Place) → IsPlace callers k p → owner cmp callers k ≡ Some (p.caller + 1)
    place_owner k p h = owner_holds cmp total apart.one_key p.caller callers k apart.distinct (held k p h)

    -- a key that is compared as equal stands at the place
    pub placed :
        (k : K) (p : Place) (was : Caller K) → p.caller < length callers → was ≡ get_or callers p.caller was
        → p.index < length was.chain → ((d : K) → eq_by_cmp cmp k (get_or was.chain p.index d) ≡ true)
        → IsPlace callers k p × (owner cmp callers k ≡ Some (p.caller + 1))
    placed k p was h e l f =
        let s : was ≡ get_or callers p.caller idle = e ∙ get_any callers p.caller was idle h in
        let is : IsPlace callers k p =
        record {
          within = record { caller = h; index = subst (λ (w : Caller K). p.index < length w.chain) s l };
          key =
              λ d. sym (apart.one_key k (key_at callers p d) (tests_equal (cmp k (key_at callers p d)) (subst (λ (w : Caller K). eq_by_cmp cmp k (get_or w.chain p.index d) ≡ true) s (f d))));
        } in
        (is, place_owner k p is)

    -- the current need of a key that stands before another one of its chain
    pub goes_in :
        (p : Place) → IsWithin callers p → suc p.index < length (get_or callers p.caller idle).chain
        → GoesOn cmp callers p (Some record { caller = p.caller; index = p.index + 1 })
    goes_in p w h k is =
        let chain : List K = (get_or callers p.caller idle).chain in
        let y : K = get_or chain (suc p.index) k in
        let split : chain ≡ take p.index chain ++ k ∷ drop (suc p.index) chain =
        split_at chain p.index k w.index ∙ ap (λ z. take p.index chain ++ z ∷ drop (suc p.index) chain) (is.key k) in
        let e : need cmp callers k ≡ Some y =
        need_at cmp total apart.one_key p.caller callers (take p.index chain) k (drop (suc p.index) chain) apart.distinct w.caller split
        ∙ ap (λ l. first cmp (l ++ option_to_list (get_or callers p.caller idle).awaits)) (first_behind chain p.index k h) in (
          y,
          e,
          record {
            within =
                record { caller = w.caller; index = (let l : p.index + 1 ≡ suc p.index = omega arith in subst (λ i. i < length chain) (sym l) h) };
            key =
                λ d. (let l : p.index + 1 ≡ suc p.index = omega arith in subst (λ i. get_or chain i d ≡ y) (sym l) (get_any chain (suc p.index) d k h));
          },
        )

    last_need :
        (p : Place) (k : K) → IsPlace callers k p → length (get_or callers p.caller idle).chain ≤ suc p.index
        → need cmp callers k ≡ first cmp (option_to_list (get_or callers p.caller idle).awaits)
    last_need p k is h =
        let chain : List K = (get_or callers p.caller idle).chain in
        let split : chain ≡ take p.index chain ++ k ∷ drop (suc p.index) chain =
        split_at chain p.index k is.within.index ∙ ap (λ z. take p.index chain ++ z ∷ drop (suc p.index) chain) (is.key k) in
        need_at cmp total apart.one_key p.caller callers (take p.index chain) k (drop (suc p.index) chain) apart.distinct is.within.caller split
        ∙ ap (λ l. first cmp (l ++ option_to_list (get_or callers p.caller idle).awaits)) (nothing_behind chain p.index h)

    -- the last key of a chain whose caller does not wait has no need
    pub goes_nowhere :
        (p : Place) → length (get_or callers p.caller idle).chain ≤ suc p.index
        → (get_or callers p.caller idle).awaits ≡ None
        → GoesOn cmp callers p None
    goes_nowhere p h e k is y f =
        absurd (let g : need cmp callers k ≡ None = last_need p k is h ∙ ap (λ o. first cmp (option_to_list o)) e in let i : Some y ≡ None = sym f ∙ g in cc)

    -- the last key of a chain needs what its caller waits for
    pub goes_over :
        (p : Place) (y : K) (o : Option Place) → length (get_or callers p.caller idle).chain ≤ suc p.index
        → (get_or callers p.caller idle).awaits ≡ Some y
        → MatchOption o (owner cmp callers y ≡ None) (λ q. IsPlace callers y q × (owner cmp callers y ≡ Some (q.caller + 1)) × (q.caller + 1 < 2 ^ 32))
        → GoesOn cmp callers p o
    goes_over p y None h e g = λ k is z f.
        let i : need cmp callers k ≡ Some y = last_need p k is h ∙ ap (λ o. first cmp (option_to_list o)) e in
        let j : Some z ≡ Some y = sym f ∙ i in
        let l : y ≡ z = cc in
        subst (λ w. owner cmp callers w ≡ None) l g
    goes_over p y (Some q) h e g = λ k is.
        (y, last_need p k is h ∙ ap (λ o. first cmp (option_to_list o)) e, g.0)

  -- the same, as the code meets the callers
  module _ (total : IsTotalOrder cmp) (items now : List (Caller K)) (n : ℕ) (v : items ≡ now)
      (apart : IsApart cmp items n) where
    apart_now : IsApart cmp now n
    apart_now = subst (λ l. IsApart cmp l n) v apart

    pub finds :
        (k : K) (p : Place) (was : Caller K) → p.caller < length items → was ≡ get_or items p.caller was
        → p.index < length was.chain → ((d : K) → eq_by_cmp cmp k (get_or was.chain p.index d) ≡ true)
        → IsPlace now k p × (owner cmp now k ≡ Some (p.caller + 1)) × (p.caller + 1 < 2 ^ 32)
    finds k p was h e l f =
        subst (λ l. IsPlace l k p × (owner cmp l k ≡ Some (p.caller + 1)) × (p.caller + 1 < 2 ^ 32)) v
        (let r = placed total items n apart k p was h e l f in
        let w : length items < 2 ^ 32 = apart.few in
        (r.0, r.1, omega arith))

    pub finds_none :
        (k : K) → ((j : ℕ) → j < length items → is_in cmp k (get_or items j idle).chain ≡ false)
        → owner cmp now k ≡ None
    finds_none k h = subst (λ l. owner cmp l k ≡ None) v (no_owner k items h)

    module _ (p : Place) (w : IsWithin now p) (was : Caller K) (here : was ≡ get_or items p.caller was) where
      within : p.caller < length items
      within = let h = w.caller in let e = ap length v in omega arith

      same : get_or now p.caller idle ≡ was
      same = ap (λ l. get_or l p.caller idle) (sym v) ∙ (get_any items p.caller idle was within ∙ sym here)

      chain_same : (get_or now p.caller idle).chain ≡ was.chain
      chain_same = ap (λ (c : Caller K). c.chain) same

      pub index_within : p.index < length was.chain
      index_within = let h = w.index in let e = ap length chain_same in omega arith

      pub steps_in :
          p.index < length was.chain - 1 → GoesOn cmp now p (Some record { caller = p.caller; index = p.index + 1 })
      steps_in h = goes_in total now n apart_now p w (let e = ap length chain_same in omega arith)

      pub steps_nowhere : length was.chain - 1 ≤ p.index → was.awaits ≡ None → GoesOn cmp now p None
      steps_nowhere h e =
          goes_nowhere total now n apart_now p (let e =
          ap length chain_same in omega arith) (ap (λ (c : Caller K). c.awaits) same ∙ e)

      pub steps_over :
          (y : K) (o : Option Place) → length was.chain - 1 ≤ p.index → was.awaits ≡ Some y
          → MatchOption o (owner cmp now y ≡ None) (λ q. IsPlace now y q × (owner cmp now y ≡ Some (q.caller + 1)) × (q.caller + 1 < 2 ^ 32))
          → GoesOn cmp now p o
      steps_over y o h e g =
          goes_over total now n apart_now p y o (let e =
          ap length chain_same in omega arith) (ap (λ (c : Caller K). c.awaits) same ∙ e) g

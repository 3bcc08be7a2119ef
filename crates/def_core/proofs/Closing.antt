-- The cycles that waits would close.
use Rattle.std.proofs.Common.{◌≡◌, ◌↔◌, inl, inr, ℕ, zero, suc, ◌-◌, true, false, cond, List, [], ◌∷◌, ◌++◌, length, get_or, take, drop, Option, Some, None, refl, sym, ◌∙◌, ap, subst, arith}
use Rattle.std.specs.Cmp.{IsTotalOrder}
use Rattle.std.specs.Prelude.{option_map, option_and_then, is_some}
use Rattle.std.specs.Ordering.{is_eq}
use Rattle.std.specs.declared.cmp.Ordering.{Ordering}
use Rattle.std.specs.declared.cmp.Ordering.TheVariants.{Equal}
use Rattle.std.proofs.lemmas.Cmp.{tied_itself}
use Rattle.def_query.specs.Keys.{IsIn, AreDistinct}
use Rattle.def_query.proofs.Maps.{Same, Apart, compared}
use Rattle.def_query.proofs.Walks.{in_append_left, in_append_right}
use Rattle.def_core.specs.State.{Caller, idle, caller_at, claimed, last}
use Rattle.def_core.specs.Needs.{Closes, path, closing, rotated, least, list_from, list_before}
use Rattle.def_core.proofs.Lists.{last_in, distinct_not_both}
use Rattle.def_core.proofs.Paths.{path_reaches, reached_whole}

module _ {K : Type 0} where
  -- what a caller has claimed, is claimed, whatever its number
  pub chain_claimed :
      (callers : List (Caller K)) (i : ℕ) (k : K) → IsIn k (get_or callers i idle).chain → IsIn k (claimed callers)
  chain_claimed [] i k h = absurd h
  chain_claimed (c ∷ callers) zero k h = in_append_left k c.chain (claimed callers) h
  chain_claimed (c ∷ callers) (suc i) k h = in_append_right k c.chain (claimed callers) (chain_claimed callers i k h)

  pub last_claimed :
      (callers : List (Caller K)) (c : ℕ) (t : K) → last (caller_at callers c).chain ≡ Some t
      → IsIn t (claimed callers)
  last_claimed callers c t e = chain_claimed callers (c - 1) t (last_in (caller_at callers c).chain t e)

module _ {K : Type 0} (cmp : K → K → Ordering) (total : IsTotalOrder cmp)
    (one_key : (x y : K) → cmp x y ≡ Equal → x ≡ y) where
  -- what the cycle is that a wait would close
  pub record ClosesBy (callers : List (Caller K)) (c : ℕ) (k : K) (y : List K) : Type 0 where
    pub top : K
    pub keys : List K
    pub as_last : last (caller_at callers c).chain ≡ Some top
    pub found : path cmp callers (length (claimed callers)) k top ≡ Some keys
    pub turned : y ≡ rotated cmp keys

  pub closing_by :
      (callers : List (Caller K)) (c : ℕ) (k : K) (y : List K) → closing cmp callers c k ≡ Some y
      → ClosesBy callers c k y
  closing_by callers c k y e = go (last (caller_at callers c).chain) refl
    where
      mapped :
          (t : K) → last (caller_at callers c).chain ≡ Some t → (o : Option (List K))
          → path cmp callers (length (claimed callers)) k t ≡ o → ClosesBy callers c k y
      mapped t f None g =
          absurd (
          let h : closing cmp callers c k ≡ None =
          ap (λ l. option_map (rotated cmp) (option_and_then (λ t. path cmp callers (length (claimed callers)) k t) l)) f
          ∙ ap (option_map (rotated cmp)) g in
          let i : Some y ≡ None = sym e ∙ h in
          cc)
      mapped t f (Some p) g =
          let h : closing cmp callers c k ≡ Some (rotated cmp p) =
          ap (λ l. option_map (rotated cmp) (option_and_then (λ t. path cmp callers (length (claimed callers)) k t) l)) f
          ∙ ap (option_map (rotated cmp)) g in
          let i : Some y ≡ Some (rotated cmp p) = sym e ∙ h in
          record { top = t; keys = p; as_last = f; found = g; turned = cc }

      go : (o : Option K) → last (caller_at callers c).chain ≡ o → ClosesBy callers c k y
      go None f =
          absurd (
          let h : closing cmp callers c k ≡ None =
          ap (λ l. option_map (rotated cmp) (option_and_then (λ t. path cmp callers (length (claimed callers)) k t) l)) f in
          let i : Some y ≡ None = sym e ∙ h in
          cc)
      go (Some t) f = mapped t f (path cmp callers (length (claimed callers)) k t) refl

  -- the path to the last key makes the cycle
  pub closing_is :
      (callers : List (Caller K)) (c : ℕ) (k t : K) → last (caller_at callers c).chain ≡ Some t
      → closing cmp callers c k ≡ option_map (rotated cmp) (path cmp callers (length (claimed callers)) k t)
  closing_is callers c k t e =
      ap (λ l. option_map (rotated cmp) (option_and_then (λ t. path cmp callers (length (claimed callers)) k t) l)) e

  pub closing_none :
      (callers : List (Caller K)) (c : ℕ) (k : K) → last (caller_at callers c).chain ≡ None
      → closing cmp callers c k ≡ None
  closing_none callers c k e =
      ap (λ l. option_map (rotated cmp) (option_and_then (λ t. path cmp callers (length (claimed callers)) k t) l)) e

  -- a cycle is found exactly where current needs reach the last key of the chain
  pub closes_closing :
      (callers : List (Caller K)) (c : ℕ) (k : K) → Closes cmp callers c k
      → (y : List K) × (closing cmp callers c k ≡ Some y)
  closes_closing callers c k h =
      let p = reached_whole cmp total one_key callers k h.0 (last_claimed callers c h.0 h.1) h.2 in
      (rotated cmp p.0, closing_is callers c k h.0 h.1 ∙ ap (option_map (rotated cmp)) p.1)

  pub closing_closes :
      (callers : List (Caller K)) (c : ℕ) (k : K) (y : List K) → closing cmp callers c k ≡ Some y
      → Closes cmp callers c k
  closing_closes callers c k y e =
      let b = closing_by callers c k y e in
      (b.top, b.as_last, path_reaches cmp total one_key callers (length (claimed callers)) k b.top b.keys b.found)

  pub closing_exact :
      (callers : List (Caller K)) (c : ℕ) (k : K)
      → (is_some (closing cmp callers c k) ≡ true) ↔ Closes cmp callers c k
  closing_exact callers c k =
      (to (closing cmp callers c k) refl, (λ h. let y = closes_closing callers c k h in ap is_some y.1))
    where
      to :
          (o : Option (List K)) → closing cmp callers c k ≡ o → is_some (closing cmp callers c k) ≡ true
          → Closes cmp callers c k
      to None e h = absurd (let f : false ≡ true = sym (ap is_some e) ∙ h in cc)
      to (Some y) e h = closing_closes callers c k y e

  -- rotating distinct keys: the list from a key on, and what stands before it
  list_from_at : (xs : List K) (x : K) (ys : List K) → ¬ IsIn x xs → list_from cmp x (xs ++ x ∷ ys) ≡ x ∷ ys
  list_from_at [] x ys h = ap (λ b. cond b (x ∷ ys) (list_from cmp x ys)) (ap is_eq (tied_itself total x))
  list_from_at (z ∷ xs) x ys h =
      elim (compared cmp total one_key x z) [
        | Same e _ ↦ absurd (h (inl e))
        | Apart _ t ↦ ap (λ b. cond b (z ∷ (xs ++ x ∷ ys)) (list_from cmp x (xs ++ x ∷ ys))) t ∙ list_from_at xs x ys (λ g. h (inr g))
      ]

  list_before_at : (xs : List K) (x : K) (ys : List K) → ¬ IsIn x xs → list_before cmp x (xs ++ x ∷ ys) ≡ xs
  list_before_at [] x ys h = ap (λ b. cond b [] (x ∷ list_before cmp x ys)) (ap is_eq (tied_itself total x))
  list_before_at (z ∷ xs) x ys h =
      elim (compared cmp total one_key x z) [
        | Same e _ ↦ absurd (h (inl e))
        | Apart _ t ↦
            ap (λ b. cond b [] (z ∷ list_before cmp x (xs ++ x ∷ ys))) t ∙ ap (λ w. z ∷ w) (list_before_at xs x ys (λ g. h (inr g)))
      ]

  drop_around : (xs : List K) (n : ℕ) (ys : List K) → length xs ≡ n → drop n (xs ++ ys) ≡ ys
  drop_around [] zero ys e = refl
  drop_around [] (suc n) ys e = absurd (omega arith)
  drop_around (x ∷ xs) zero ys e = absurd (omega arith)
  drop_around (x ∷ xs) (suc n) ys e = drop_around xs n ys (omega arith)

  take_around : (xs : List K) (n : ℕ) (ys : List K) → length xs ≡ n → take n (xs ++ ys) ≡ xs
  take_around [] zero ys e = refl
  take_around [] (suc n) ys e = absurd (omega arith)
  take_around (x ∷ xs) zero ys e = absurd (omega arith)
  take_around (x ∷ xs) (suc n) ys e = ap (λ w. x ∷ w) (take_around xs n ys (omega arith))

  -- the rotated list, where the least key stands at this place
  pub rotated_at :
      (x : K) (rest before behind : List K) (at : ℕ) → AreDistinct (x ∷ rest)
      → x ∷ rest ≡ before ++ least cmp x rest ∷ behind → length before ≡ at
      → rotated cmp (x ∷ rest) ≡ drop at (x ∷ rest) ++ take at (x ∷ rest)
  rotated_at x rest before behind at d e l =
      let m : K = least cmp x rest in
      let apart : ¬ IsIn m before = λ h. distinct_not_both before (m ∷ behind) (subst AreDistinct e d) m h (inl refl) in
      let f : list_from cmp m (x ∷ rest) ≡ m ∷ behind = ap (list_from cmp m) e ∙ list_from_at before m behind apart in
      let g : list_before cmp m (x ∷ rest) ≡ before = ap (list_before cmp m) e ∙ list_before_at before m behind apart in
      let h : drop at (x ∷ rest) ≡ m ∷ behind = ap (drop at) e ∙ drop_around before at (m ∷ behind) l in
      let i : take at (x ∷ rest) ≡ before = ap (take at) e ∙ take_around before at (m ∷ behind) l in
      ap (λ l. l ++ list_before cmp m (x ∷ rest)) (f ∙ sym h) ∙ ap (λ l. drop at (x ∷ rest) ++ l) (g ∙ sym i)

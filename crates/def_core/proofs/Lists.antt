-- Lists and their last elements, and lists of distinct keys.
use Rattle.std.proofs.Common.{◌≡◌, ◌≢◌, ◌⊎◌, inl, inr, ℕ, zero, suc, ◌+◌, ◌<◌, ◌≤◌, List, [], ◌∷◌, ◌++◌, length, get_or, set, Some, None, refl, sym, ap, subst, arith}
use Rattle.def_query.specs.Keys.{IsIn, AreDistinct}
use Rattle.def_query.proofs.Walks.{Without, take_out, in_append_left, in_append_right, in_append_cases, distinct_from, distinct_front}
use Rattle.def_core.specs.State.{last, without_last}

module _ {X : Type 0} where
  pub last_snoc : (xs : List X) (x : X) → last (xs ++ x ∷ []) ≡ Some x
  last_snoc [] x = refl
  last_snoc (y ∷ []) x = refl
  last_snoc (y ∷ z ∷ xs) x = last_snoc (z ∷ xs) x

  pub front_snoc : (xs : List X) (x : X) → without_last (xs ++ x ∷ []) ≡ xs
  front_snoc [] x = refl
  front_snoc (y ∷ []) x = refl
  front_snoc (y ∷ z ∷ xs) x = ap (λ w. y ∷ w) (front_snoc (z ∷ xs) x)

  pub last_some : (xs : List X) (x : X) → last xs ≡ Some x → xs ≡ without_last xs ++ x ∷ []
  last_some [] x e = absurd (let f : None ≡ Some x = e in cc)
  last_some (y ∷ []) x e = let f : Some y ≡ Some x = e in cc
  last_some (y ∷ z ∷ xs) x e = ap (λ w. y ∷ w) (last_some (z ∷ xs) x e)

  pub last_none : (xs : List X) → last xs ≡ None → xs ≡ []
  last_none [] e = refl
  last_none (y ∷ []) e = absurd (let f : Some y ≡ None = e in cc)
  last_none (y ∷ z ∷ xs) e = absurd (let f : y ∷ z ∷ xs ≡ [] = absurd (not_none z xs e) in cc)
    where
      not_none : (z : X) (xs : List X) → last (z ∷ xs) ≡ None → ⊥
      not_none z [] e = let f : Some z ≡ None = e in cc
      not_none z (w ∷ xs) e = not_none w xs e

  pub last_exists : (xs : List X) → xs ≢ [] → (x : X) × (last xs ≡ Some x)
  last_exists [] h = absurd (h refl)
  last_exists (x ∷ []) h = (x, refl)
  last_exists (x ∷ y ∷ xs) h = last_exists (y ∷ xs) (λ e. cc)

  pub snoc_some : (xs : List X) (x : X) → xs ++ x ∷ [] ≢ []
  snoc_some [] x e = cc
  snoc_some (y ∷ xs) x e = cc

  pub append_nil : (xs : List X) → xs ++ [] ≡ xs
  append_nil [] = refl
  append_nil (x ∷ xs) = ap (λ w. x ∷ w) (append_nil xs)

  pub append_more : (xs ys zs : List X) → (xs ++ ys) ++ zs ≡ xs ++ (ys ++ zs)
  append_more [] ys zs = refl
  append_more (x ∷ xs) ys zs = ap (λ w. x ∷ w) (append_more xs ys zs)

  pub length_more : (xs ys : List X) → length (xs ++ ys) ≡ length xs + length ys
  length_more [] ys = omega arith
  length_more (x ∷ xs) ys = let e = length_more xs ys in omega arith

  -- what stands before and behind a place
  pub record At (xs : List X) (i : ℕ) (d : X) : Type 0 where
    pub before : List X
    pub behind : List X
    pub is : xs ≡ before ++ get_or xs i d ∷ behind
    pub set_is : (y : X) → set xs i y ≡ before ++ y ∷ behind
    pub place : length before ≡ i

  pub at_place : (xs : List X) (i : ℕ) (d : X) → i < length xs → At xs i d
  at_place [] i d h = absurd (omega arith)
  at_place (x ∷ xs) zero d h = record { before = []; behind = xs; is = refl; set_is = λ y. refl; place = refl }
  at_place (x ∷ xs) (suc i) d h =
      let a : At xs i d = at_place xs i d (omega arith) in
      record {
        before = x ∷ a.before;
        behind = a.behind;
        is = ap (λ w. x ∷ w) a.is;
        set_is = λ y. ap (λ w. x ∷ w) (a.set_is y);
        place = ap suc a.place;
      }

  pub in_snoc : (xs : List X) (x : X) → IsIn x (xs ++ x ∷ [])
  in_snoc xs x = in_append_right x xs (x ∷ []) (inl refl)

  pub last_in : (xs : List X) (x : X) → last xs ≡ Some x → IsIn x xs
  last_in xs x e = subst (IsIn x) (sym (last_some xs x e)) (in_snoc (without_last xs) x)

  pub front_in : (xs : List X) (y : X) → IsIn y (without_last xs) → IsIn y xs
  front_in [] y h = h
  front_in (x ∷ []) y h = absurd h
  front_in (x ∷ z ∷ xs) y (inl e) = inl e
  front_in (x ∷ z ∷ xs) y (inr h) = inr (front_in (z ∷ xs) y h)

  pub in_mid : (xs : List X) (x : X) (ys : List X) → IsIn x (xs ++ x ∷ ys)
  in_mid xs x ys = in_append_right x xs (x ∷ ys) (inl refl)

  pub distinct_join :
      (xs ys : List X) → AreDistinct xs → AreDistinct ys → ((z : X) → IsIn z xs → ¬ IsIn z ys)
      → AreDistinct (xs ++ ys)
  distinct_join [] ys d e f = e
  distinct_join (x ∷ xs) ys d e f = (
    (λ h. elim (in_append_cases x xs ys h) [
      | inl k ↦ d.0 k
      | inr k ↦ f x (inl refl) k
    ]),
    distinct_join xs ys d.1 e (λ z h. f z (inr h)),
  )

  pub distinct_not_both : (xs ys : List X) → AreDistinct (xs ++ ys) → (z : X) → IsIn z xs → ¬ IsIn z ys
  distinct_not_both [] ys d z h k = h
  distinct_not_both (x ∷ xs) ys d z (inl e) k = d.0 (in_append_right x xs ys (subst (λ w. IsIn w ys) e k))
  distinct_not_both (x ∷ xs) ys d z (inr h) k = distinct_not_both xs ys d.1 z h k

  pub distinct_tail : (xs : List X) → AreDistinct xs → AreDistinct (without_last xs)
  distinct_tail [] d = tt
  distinct_tail (x ∷ []) d = tt
  distinct_tail (x ∷ y ∷ xs) d = ((λ h. d.0 (front_in (y ∷ xs) x h)), distinct_tail (y ∷ xs) d.1)

  -- a list of distinct elements that another has is not longer
  pub length_within : (xs ys : List X) → AreDistinct xs → ((z : X) → IsIn z xs → IsIn z ys) → length xs ≤ length ys
  length_within [] ys d f = omega arith
  length_within (x ∷ xs) ys d f =
      let w : Without x ys = take_out x ys (f x (inl refl)) in
      let ih : length xs ≤ length w.rest =
      length_within xs w.rest d.1 (λ z h. w.keeps z (λ e. d.0 (subst (λ u. IsIn u xs) e h)) (f z (inr h))) in
      let s : length ys ≡ suc (length w.rest) = w.shorter in
      omega arith

  -- a part of a list of distinct elements is replaced by distinct elements that the rest lacks
  pub distinct_swap :
      (before old new behind : List X) → AreDistinct (before ++ (old ++ behind)) → AreDistinct new
      → ((z : X) → IsIn z new → IsIn z old ⊎ (¬ IsIn z (before ++ (old ++ behind))))
      → AreDistinct (before ++ (new ++ behind))
  distinct_swap before old new behind d dn f =
      distinct_join before (new ++ behind)
      (distinct_front before (old ++ behind) d)
      (distinct_join new behind dn (distinct_from old behind (distinct_from before (old ++ behind) d)) new_apart)
      (λ z h k. elim (in_append_cases z new behind k) [
        | inl i ↦ elim (f z i) [
          | inl o ↦ distinct_not_both before (old ++ behind) d z h (in_append_left z old behind o)
          | inr o ↦ o (in_append_left z before (old ++ behind) h)
        ]
        | inr i ↦ distinct_not_both before (old ++ behind) d z h (in_append_right z old behind i)
      ])
    where
      new_apart : (z : X) → IsIn z new → ¬ IsIn z behind
      new_apart z h k = elim (f z h) [
        | inl o ↦ distinct_not_both old behind (distinct_from before (old ++ behind) d) z o k
        | inr o ↦ o (in_append_right z before (old ++ behind) (in_append_right z old behind k))
      ]

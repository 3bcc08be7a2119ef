-- Keys of lists, and walks.
use Rattle.std.proofs.Common.{◌≡◌, ◌≢◌, ◌⊎◌, suc, inl, inr, List, [], ◌∷◌, ◌++◌, length, refl, sym, ◌∙◌, ap, subst}
use Rattle.def_query.specs.Keys.{IsIn, AreDistinct, IsWalk, IsPath, Leads, Reaches}

module _ {K : Type 0} where
  -- the list without one of its keys
  pub record Without (y : K) (xs : List K) : Type 0 where
    pub rest : List K
    pub shorter : length xs ≡ suc (length rest)
    pub keeps : (z : K) → z ≢ y → IsIn z xs → IsIn z rest

  pub take_out : (y : K) (xs : List K) → IsIn y xs → Without y xs
  take_out y [] h = absurd h
  take_out y (x ∷ xs) (inl e) = record {
    rest = xs;
    shorter = refl;
    keeps = λ z apart h. elim h [ inl e' ↦ absurd (apart (e' ∙ sym e)) | inr k ↦ k ];
  }
  take_out y (x ∷ xs) (inr h) =
      let w = take_out y xs h in
      record {
        rest = x ∷ w.rest;
        shorter = ap suc w.shorter;
        keeps = λ z apart k. elim k [ inl e ↦ inl e | inr k' ↦ inr (w.keeps z apart k') ];
      }

  pub in_append_left : (x : K) (xs ys : List K) → IsIn x xs → IsIn x (xs ++ ys)
  in_append_left x [] ys h = absurd h
  in_append_left x (z ∷ xs) ys (inl e) = inl e
  in_append_left x (z ∷ xs) ys (inr h) = inr (in_append_left x xs ys h)

  pub in_append_right : (x : K) (xs ys : List K) → IsIn x ys → IsIn x (xs ++ ys)
  in_append_right x [] ys h = h
  in_append_right x (z ∷ xs) ys h = inr (in_append_right x xs ys h)

  pub in_append_cases : (x : K) (xs ys : List K) → IsIn x (xs ++ ys) → IsIn x xs ⊎ IsIn x ys
  in_append_cases x [] ys h = inr h
  in_append_cases x (z ∷ xs) ys (inl e) = inl (inl e)
  in_append_cases x (z ∷ xs) ys (inr h) = elim (in_append_cases x xs ys h) [ inl k ↦ inl (inr k) | inr k ↦ inr k ]

  -- where a key of a list stands
  pub record Place (x : K) (xs : List K) : Type 0 where
    pub before : List K
    pub after : List K
    pub is : xs ≡ before ++ x ∷ after

  pub place_of : (x : K) (xs : List K) → IsIn x xs → Place x xs
  place_of x [] h = absurd h
  place_of x (z ∷ xs) (inl e) = record { before = []; after = xs; is = ap (λ w. w ∷ xs) (sym e) }
  place_of x (z ∷ xs) (inr h) =
      let p = place_of x xs h in
      record { before = z ∷ p.before; after = p.after; is = ap (λ w. z ∷ w) p.is }

  module _ (R : K → K → Type 0) where
    pub walk_join : (x y : K) (xs ys : List K) → IsWalk R x (xs ++ y ∷ []) → IsWalk R y ys → IsWalk R x (xs ++ y ∷ ys)
    walk_join x y [] ys v w = (v.0, w)
    walk_join x y (z ∷ xs) ys v w = (v.0, walk_join z y xs ys v.1 w)

    pub walk_to : (x y : K) (xs ys : List K) → IsWalk R x (xs ++ y ∷ ys) → IsWalk R x (xs ++ y ∷ [])
    walk_to x y [] ys v = (v.0, tt)
    walk_to x y (z ∷ xs) ys v = (v.0, walk_to z y xs ys v.1)

    pub walk_from : (x y : K) (xs ys : List K) → IsWalk R x (xs ++ y ∷ ys) → IsWalk R y ys
    walk_from x y [] ys v = v.1
    walk_from x y (z ∷ xs) ys v = walk_from z y xs ys v.1

    -- a closed walk that is begun at another of its keys
    pub turned :
        (x y : K) (before after : List K) → IsWalk R x (before ++ y ∷ (after ++ x ∷ []))
        → IsWalk R y (after ++ x ∷ (before ++ y ∷ []))
    turned x y before after w =
        walk_join y x after (before ++ y ∷ [])
        (walk_from x y before (after ++ x ∷ []) w)
        (walk_to x y before (after ++ x ∷ []) w)

    pub leads_step : (x y : K) → R x y → Leads R x y
    leads_step x y h = ([], (h, tt))

    pub leads_join : (x y z : K) → Leads R x y → Leads R y z → Leads R x z
    leads_join x y z v w = (
      v.0 ++ y ∷ w.0,
      subst (IsWalk R x) (sym (joined v.0 y w.0 z)) (walk_join x y v.0 (w.0 ++ z ∷ []) v.1 w.1),
    )
      where
        joined : (xs : List K) (u : K) (ys : List K) (t : K) → (xs ++ u ∷ ys) ++ t ∷ [] ≡ xs ++ u ∷ (ys ++ t ∷ [])
        joined [] u ys t = refl
        joined (q ∷ xs) u ys t = ap (λ w. q ∷ w) (joined xs u ys t)

    pub reaches_leads : (x y z : K) → Reaches R x y → Leads R y z → Leads R x z
    reaches_leads x y z (inl e) w = subst (λ u. Leads R u z) (sym e) w
    reaches_leads x y z (inr v) w = leads_join x y z v w

    pub leads_reaches : (x y z : K) → Leads R x y → Reaches R y z → Leads R x z
    leads_reaches x y z v (inl e) = subst (Leads R x) e v
    leads_reaches x y z v (inr w) = leads_join x y z v w

    pub reaches_join : (x y z : K) → Reaches R x y → Reaches R y z → Reaches R x z
    reaches_join x y z (inl e) w = subst (λ u. Reaches R u z) (sym e) w
    reaches_join x y z (inr v) w = inr (leads_reaches x y z v w)

  -- along a larger relation
  pub walk_along : (R S : K → K → Type 0) → ((x y : K) → R x y → S x y) → (x : K) (xs : List K) → IsWalk R x xs → IsWalk S x xs
  walk_along R S f x [] v = tt
  walk_along R S f x (y ∷ xs) v = (f x y v.0, walk_along R S f y xs v.1)

  pub reaches_along : (R S : K → K → Type 0) → ((x y : K) → R x y → S x y) → (x y : K) → Reaches R x y → Reaches S x y
  reaches_along R S f x y (inl e) = inl e
  reaches_along R S f x y (inr v) = inr (v.0, walk_along R S f x (v.0 ++ y ∷ []) v.1)

  pub regroup : (xs ys : List K) (x y : K) → (xs ++ x ∷ ys) ++ y ∷ [] ≡ xs ++ x ∷ (ys ++ y ∷ [])
  regroup [] ys x y = refl
  regroup (z ∷ xs) ys x y = ap (λ w. z ∷ w) (regroup xs ys x y)

  module _ (R : K → K → Type 0) where
    walk_push : (x : K) (xs : List K) (top y : K) → IsWalk R x (xs ++ top ∷ []) → R top y → IsWalk R x ((xs ++ top ∷ []) ++ y ∷ [])
    walk_push x [] top y w h = (w.0, (h, tt))
    walk_push x (z ∷ xs) top y w h = (w.0, walk_push z xs top y w.1 h)

    pub path_push : (xs : List K) (top y : K) → IsPath R (xs ++ top ∷ []) → R top y → IsPath R ((xs ++ top ∷ []) ++ y ∷ [])
    path_push [] top y w h = (h, tt)
    path_push (z ∷ xs) top y w h = walk_push z xs top y w h

    pub path_from : (xs : List K) (y : K) (ys : List K) → IsPath R (xs ++ y ∷ ys) → IsWalk R y ys
    path_from [] y ys w = w
    path_from (z ∷ xs) y ys w = walk_from R z y xs ys w

    walk_front : (x : K) (xs ys : List K) → IsWalk R x (xs ++ ys) → IsWalk R x xs
    walk_front x [] ys w = tt
    walk_front x (z ∷ xs) ys w = (w.0, walk_front z xs ys w.1)

    pub path_front : (xs ys : List K) → IsPath R (xs ++ ys) → IsPath R xs
    path_front [] ys w = tt
    path_front (z ∷ xs) ys w = walk_front z xs ys w

    pub path_reaches : (x : K) (xs : List K) (y : K) → IsWalk R x xs → IsIn y (x ∷ xs) → Reaches R x y
    path_reaches x xs y w (inl e) = inl (sym e)
    path_reaches x [] y w (inr h) = absurd h
    path_reaches x (z ∷ xs) y w (inr h) = inr (leads_reaches R x z y (leads_step R x z w.0) (path_reaches z xs y w.1 h))

    -- a path that comes back to one of its keys
    pub path_closed :
        (before : List K) (top : K) (bs : List K) (y : K) (cs : List K)
        → before ++ top ∷ [] ≡ bs ++ y ∷ cs → IsPath R (before ++ top ∷ []) → R top y → IsWalk R y (cs ++ y ∷ [])
    path_closed before top bs y cs e w h =
        let p : IsPath R ((bs ++ y ∷ cs) ++ y ∷ []) = subst (λ l. IsPath R (l ++ y ∷ [])) e (path_push before top y w h) in
        path_from bs y (cs ++ y ∷ []) (subst (IsPath R) (regroup bs cs y y) p)

  pub distinct_push : (xs : List K) (y : K) → AreDistinct xs → ¬ IsIn y xs → AreDistinct (xs ++ y ∷ [])
  distinct_push [] y d h = ((λ k. k), tt)
  distinct_push (x ∷ xs) y d h = (
    (λ k. elim (in_append_cases x xs (y ∷ []) k) [
      | inl k' ↦ d.0 k'
      | inr k' ↦ elim k' [ inl e ↦ h (inl (sym e)) | inr n ↦ n ]
    ]),
    distinct_push xs y d.1 (λ k. h (inr k)),
  )

  pub distinct_from : (xs ys : List K) → AreDistinct (xs ++ ys) → AreDistinct ys
  distinct_from [] ys d = d
  distinct_from (x ∷ xs) ys d = distinct_from xs ys d.1

  pub distinct_front : (xs ys : List K) → AreDistinct (xs ++ ys) → AreDistinct xs
  distinct_front [] ys d = tt
  distinct_front (x ∷ xs) ys d = ((λ h. d.0 (in_append_left x xs ys h)), distinct_front xs ys d.1)

  pub distinct_apart : (xs : List K) (y : K) → AreDistinct (xs ++ y ∷ []) → ¬ IsIn y xs
  distinct_apart [] y d h = h
  distinct_apart (x ∷ xs) y d (inl e) = d.0 (in_append_right x xs (y ∷ []) (inl (sym e)))
  distinct_apart (x ∷ xs) y d (inr h) = distinct_apart xs y d.1 h

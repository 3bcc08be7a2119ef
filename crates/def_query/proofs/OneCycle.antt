-- A key has one cycle.
use Rattle.std.proofs.Common.{◌≡◌, ◌⊎◌, inl, inr, List, [], ◌∷◌, ◌++◌, refl, sym, subst}
use Rattle.std.specs.Cmp.{IsTotalOrder}
use Rattle.std.specs.declared.cmp.Ordering.{Ordering}
use Rattle.std.specs.declared.cmp.Ordering.TheVariants.{Less, Equal}
use Rattle.std.proofs.lemmas.Cmp.{tied_itself}
use Rattle.def_query.specs.Keys.{IsIn, AreDistinct, IsWalk, Reaches}
use Rattle.def_query.proofs.Walks.{Place, place_of, walk_to, regroup, in_append_left}
use Rattle.def_query.proofs.Least.{LessThanAll}

module _ {K : Type 0} (cmp : K → K → Ordering) (total : IsTotalOrder cmp) (one_key : (x y : K) → cmp x y ≡ Equal → x ≡ y)
    (R : K → K → Type 0) (one_way : (k x y : K) → R k x → R k y → x ≡ y) where
  not_less : (x : K) → cmp x x ≡ Less → ⊥
  not_less x h = let e = tied_itself total x in cc

  less_in : (x y : K) (ys : List K) → LessThanAll cmp total one_key x ys → IsIn y ys → cmp x y ≡ Less
  less_in x y [] a h = absurd h
  less_in x y (z ∷ ys) a (inl e) = subst (λ w. cmp x w ≡ Less) (sym e) a.0
  less_in x y (z ∷ ys) a (inr h) = less_in x y ys a.1 h

  -- z stands on the loop x ∷ xs, and the rest of it leads back to x
  record On (x : K) (xs : List K) (z : K) : Type 0 where
    isin : IsIn z (x ∷ xs)
    rest : List K
    walk : IsWalk R z (rest ++ x ∷ [])
    part : (y : K) → IsIn y rest → IsIn y xs

  on_step : (x : K) (xs : List K) → IsWalk R x (xs ++ x ∷ []) → (z : K) (o : On x xs z) (y : K) → R z y → On x xs y
  on_step x xs w z o y h = go o.rest o.walk o.part
    where
      go : (rest : List K) → IsWalk R z (rest ++ x ∷ []) → ((y : K) → IsIn y rest → IsIn y xs) → On x xs y
      go [] v p =
          let e = one_way z y x h v.0 in
          record {
            isin = inl e;
            rest = xs;
            walk = subst (λ q. IsWalk R q (xs ++ x ∷ [])) (sym e) w;
            part = λ q i. i;
          }
      go (t ∷ rest) v p =
          let e = one_way z y t h v.0 in
          record {
            isin = inr (p y (inl e));
            rest = rest;
            walk = subst (λ q. IsWalk R q (rest ++ x ∷ [])) (sym e) v.1;
            part = λ q i. p q (inr i);
          }

  on_walk : (x : K) (xs : List K) → IsWalk R x (xs ++ x ∷ []) → (z : K) → On x xs z → (zs : List K) (y : K) → IsWalk R z (zs ++ y ∷ []) → On x xs y
  on_walk x xs w z o [] y v = on_step x xs w z o y v.0
  on_walk x xs w z o (t ∷ zs) y v = on_walk x xs w t (on_step x xs w z o t v.0) zs y v.1

  -- what a loop reaches is on it
  on_reached : (x : K) (xs : List K) → IsWalk R x (xs ++ x ∷ []) → (y : K) → Reaches R x y → On x xs y
  on_reached x xs w y (inl e) =
      subst (On x xs) e record { isin = inl refl; rest = xs; walk = w; part = λ q i. i }
  on_reached x xs w y (inr v) =
      on_walk x xs w x record { isin = inl refl; rest = xs; walk = w; part = λ q i. i } v.0 y v.1

  -- of two keys that k reaches one reaches the other
  go_on : (k : K) (zs : List K) (x y : K) → IsWalk R k (zs ++ x ∷ []) → Reaches R k y → Reaches R x y ⊎ Reaches R y x
  go_on k zs x y w (inl e) = inr (subst (λ q. Reaches R q x) e (inr (zs, w)))
  go_on k [] x y w (inr ([], v)) = inl (inl (one_way k x y w.0 v.0))
  go_on k [] x y w (inr (t ∷ ts, v)) = inl (inr (ts, subst (λ q. IsWalk R q (ts ++ y ∷ [])) (one_way k t x v.0 w.0) v.1))
  go_on k (z ∷ zs) x y w (inr ([], v)) = go_on z zs x y w.1 (inl (one_way k z y w.0 v.0))
  go_on k (z ∷ zs) x y w (inr (t ∷ ts, v)) =
      go_on z zs x y w.1 (inr (ts, subst (λ q. IsWalk R q (ts ++ y ∷ [])) (one_way k t z v.0 w.0) v.1))

  either_way : (k x y : K) → Reaches R k x → Reaches R k y → Reaches R x y ⊎ Reaches R y x
  either_way k x y (inl e) v = inl (subst (λ q. Reaches R q y) e v)
  either_way k x y (inr w) v = go_on k w.0 x y w.1 v

  -- two loops that begin at their least keys, one of which leads to the other, begin at one key
  same_first :
      (x y : K) (xs ys : List K)
      → IsWalk R x (xs ++ x ∷ []) → IsWalk R y (ys ++ y ∷ [])
      → LessThanAll cmp total one_key x xs → LessThanAll cmp total one_key y ys
      → Reaches R x y → x ≡ y
  same_first x y xs ys w v a b h =
      let o = on_reached x xs w y h in
      let p = on_reached y ys v x (inr (o.rest, o.walk)) in
      elim o.isin [
        | inl e ↦ sym e
        | inr i ↦ elim p.isin [
          | inl e ↦ e
          | inr j ↦
              (let f : cmp x y ≡ Less = less_in x y xs a i in
              let g : cmp y x ≡ Less = less_in y x ys b j in
              absurd (not_less x (total.trans x y x f g)))
        ]
      ]

  same_rest :
      (x z : K) (xs ys : List K) → IsWalk R z (xs ++ x ∷ []) → IsWalk R z (ys ++ x ∷ [])
      → LessThanAll cmp total one_key x xs → LessThanAll cmp total one_key x ys → xs ≡ ys
  same_rest x z [] [] w v a b = refl
  same_rest x z [] (t ∷ ys) w v a b =
      absurd (not_less x (subst (λ q. cmp x q ≡ Less) (one_way z t x v.0 w.0) b.0))
  same_rest x z (t ∷ xs) [] w v a b =
      absurd (not_less x (subst (λ q. cmp x q ≡ Less) (one_way z t x w.0 v.0) a.0))
  same_rest x z (t ∷ xs) (u ∷ ys) w v a b =
      let e = one_way z t u w.0 v.0 in
      let f = same_rest x t xs ys w.1 (subst (λ q. IsWalk R q (ys ++ x ∷ [])) (sym e) v.1) a.1 b.1 in
      cc

  pub same_loop :
      (k x y : K) (xs ys : List K)
      → Reaches R k x → Reaches R k y
      → IsWalk R x (xs ++ x ∷ []) → IsWalk R y (ys ++ y ∷ [])
      → LessThanAll cmp total one_key x xs → LessThanAll cmp total one_key y ys
      → x ∷ xs ≡ y ∷ ys
  same_loop k x y xs ys g h w v a b =
      let e : x ≡ y = elim (either_way k x y g h) [
        | inl t ↦ same_first x y xs ys w v a b t
        | inr t ↦ sym (same_first y x ys xs v w b a t)
      ] in
      let w' : IsWalk R y (xs ++ y ∷ []) = subst (λ q. IsWalk R q (xs ++ q ∷ [])) e w in
      let a' : LessThanAll cmp total one_key y xs = subst (λ q. LessThanAll cmp total one_key q xs) e a in
      let f : xs ≡ ys = same_rest y y xs ys w' v a' b in
      cc

  -- a loop that begins at a key less than each other one has no key twice
  distinct_rest : (x z : K) (xs : List K) → IsWalk R z (xs ++ x ∷ []) → LessThanAll cmp total one_key x xs → AreDistinct xs
  distinct_rest x z [] w a = tt
  distinct_rest x z (t ∷ xs) w a = (apart, distinct_rest x t xs w.1 a.1)
    where
      apart : ¬ IsIn t xs
      apart i =
          let p : Place t xs = place_of t xs i in
          let v : IsWalk R t ((p.before ++ t ∷ p.after) ++ x ∷ []) = subst (λ l. IsWalk R t (l ++ x ∷ [])) p.is w.1 in
          let u : IsWalk R t (p.before ++ t ∷ (p.after ++ x ∷ [])) = subst (IsWalk R t) (regroup p.before p.after t x) v in
          let o = on_reached t p.before (walk_to R t t p.before (p.after ++ x ∷ []) u) x (inr (xs, w.1)) in
          let j : IsIn x (t ∷ xs) = elim o.isin [
            | inl e ↦ inl e
            | inr q ↦ inr (subst (IsIn x) (sym p.is) (in_append_left x p.before (t ∷ p.after) q))
          ] in
          not_less x (less_in x x (t ∷ xs) a j)

  pub distinct_loop : (x : K) (xs : List K) → IsWalk R x (xs ++ x ∷ []) → LessThanAll cmp total one_key x xs → AreDistinct (x ∷ xs)
  distinct_loop x xs w a = ((λ i. not_less x (less_in x x xs a i)), distinct_rest x x xs w a)

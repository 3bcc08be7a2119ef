-- Places in lists.
use Rattle.std.proofs.Common.{◌≡◌, ℕ, zero, suc, ◌+◌, ◌-◌, ◌<◌, ◌≤◌, List, [], ◌∷◌, ◌++◌, length, take, drop, get_or, refl, sym, ◌∙◌, ap, arith, inl, inr}
use Rattle.std.specs.List.{AllByRecursion}
use Rattle.def_query.specs.Keys.{IsIn}

module _ {X : Type 0} where
  pub split_at : (xs : List X) (i : ℕ) (d : X) → i < length xs → xs ≡ take i xs ++ get_or xs i d ∷ drop (suc i) xs
  split_at [] i d h = absurd (omega arith)
  split_at (x ∷ xs) zero d h = refl
  split_at (x ∷ xs) (suc i) d h = ap (λ w. x ∷ w) (split_at xs i d (omega arith))

  pub drop_at : (xs : List X) (i : ℕ) (d : X) → i < length xs → drop i xs ≡ get_or xs i d ∷ drop (suc i) xs
  drop_at [] i d h = absurd (omega arith)
  drop_at (x ∷ xs) zero d h = refl
  drop_at (x ∷ xs) (suc i) d h = drop_at xs i d (omega arith)

  nothing_behind : (xs : List X) (i : ℕ) → length xs ≤ i → drop i xs ≡ []
  nothing_behind [] zero h = refl
  nothing_behind [] (suc i) h = refl
  nothing_behind (x ∷ xs) zero h = absurd (omega arith)
  nothing_behind (x ∷ xs) (suc i) h = nothing_behind xs i (omega arith)

  -- a list and its last element
  pub last_at : (xs : List X) (i : ℕ) (d : X) → length xs ≡ i + 1 → xs ≡ take i xs ++ get_or xs i d ∷ []
  last_at xs i d h =
      split_at xs i d (omega arith)
      ∙ ap (λ l. take i xs ++ get_or xs i d ∷ l) (nothing_behind xs (suc i) (omega arith))

  pub same_front : (xs ys : List X) (x y : X) → xs ++ x ∷ [] ≡ ys ++ y ∷ [] → xs ≡ ys
  same_front [] [] x y e = refl
  same_front [] (z ∷ ys) x y e = absurd (no_snoc ys y (let f : [] ≡ ys ++ y ∷ [] = cc in f))
    where
      no_snoc : (ys : List X) (y : X) → [] ≡ ys ++ y ∷ [] → ⊥
      no_snoc [] y e = cc
      no_snoc (z ∷ ys) y e = cc
  same_front (z ∷ xs) [] x y e = absurd (no_snoc xs x (let f : xs ++ x ∷ [] ≡ [] = cc in f))
    where
      no_snoc : (ys : List X) (y : X) → ys ++ y ∷ [] ≡ [] → ⊥
      no_snoc [] y e = cc
      no_snoc (z ∷ ys) y e = cc
  same_front (z ∷ xs) (w ∷ ys) x y e =
      let f : xs ++ x ∷ [] ≡ ys ++ y ∷ [] = cc in
      let g : z ≡ w = cc in
      let h = same_front xs ys x y f in
      cc

  pub same_last : (xs ys : List X) (x y : X) → xs ++ x ∷ [] ≡ ys ++ y ∷ [] → x ≡ y
  same_last xs ys x y e =
      let f = same_front xs ys x y e in
      front ys x y (ap (λ l. l ++ x ∷ []) (sym f) ∙ e)
    where
      front : (ys : List X) (x y : X) → ys ++ x ∷ [] ≡ ys ++ y ∷ [] → x ≡ y
      front [] x y e = cc
      front (z ∷ ys) x y e = front ys x y (let f : ys ++ x ∷ [] ≡ ys ++ y ∷ [] = cc in f)

  pub record IndexOf (x : X) (xs : List X) : Type 0 where
    pub at : ℕ
    pub within : at < length xs
    pub reads : (d : X) → get_or xs at d ≡ x

  pub index_of : (x : X) (xs : List X) → IsIn x xs → IndexOf x xs
  index_of x [] h = absurd h
  index_of x (y ∷ xs) (inl e) = record { at = 0; within = omega arith; reads = λ d. sym e }
  index_of x (y ∷ xs) (inr h) =
      let i = index_of x xs h in
      record { at = suc i.at; within = (let w : i.at < length xs = i.within in omega arith); reads = i.reads }

  pub all_in : (P : X → Type 0) (xs : List X) → ((x : X) → IsIn x xs → P x) → AllByRecursion P xs
  all_in P [] f = tt
  all_in P (x ∷ xs) f = (f x (inl refl), all_in P xs (λ y i. f y (inr i)))

  pub length_snoc : (xs : List X) (x : X) → length (xs ++ x ∷ []) ≡ length xs + 1
  length_snoc [] x = refl
  length_snoc (y ∷ xs) x = let e = length_snoc xs x in omega arith

  take_whole : (xs : List X) (n : ℕ) → n ≡ length xs → take n xs ≡ xs
  take_whole [] zero e = refl
  take_whole [] (suc n) e = refl
  take_whole (x ∷ xs) zero e = absurd (omega arith)
  take_whole (x ∷ xs) (suc n) e = ap (λ w. x ∷ w) (take_whole xs n (omega arith))

  length_behind : (xs : List X) (n : ℕ) → length xs - n ≡ length (drop n xs)
  length_behind xs zero = omega arith
  length_behind [] (suc n) = omega arith
  length_behind (x ∷ xs) (suc n) = let e = length_behind xs n in omega arith

  -- a range that goes to the end
  pub whole_behind : (xs : List X) (n : ℕ) → take (length xs - n) (drop n xs) ≡ drop n xs
  whole_behind xs n = take_whole (drop n xs) (length xs - n) (length_behind xs n)

  pub empty_list : (xs : List X) → length xs ≡ 0 → xs ≡ []
  empty_list [] e = refl
  empty_list (x ∷ xs) e = absurd (omega arith)

-- Pairs whose keys rise: what is found at a place, and what a new pair in a gap does.
use Rattle.std.proofs.Common.{◌≡◌, ℕ, zero, suc, ◌<◌, ◌≤◌, Bool, true, false, cond, List, [], ◌∷◌, ◌++◌, length, take, drop, get_or, Option, Some, None, Result, Ok, Err, IfOk, IfErr, refl, sym, ◌∙◌, ap, subst, arith, inl, inr, ◌⊎◌}
use Rattle.std.specs.Cmp.{IsTotalOrder}
use Rattle.std.specs.List.{AllByRecursion, AllWithin, insert}
use Rattle.std.specs.List.Sorted.{IsNonDecreasingBy, IsBinarySearchResult, IsSearchInRange}
use Rattle.std.specs.Ordering.{eq_by_cmp, is_eq, ordering_index, ordering_reverse}
use Rattle.std.specs.declared.cmp.Ordering.{Ordering}
use Rattle.std.specs.declared.cmp.Ordering.TheVariants.{Less, Equal, Greater}
use Rattle.std.proofs.lemmas.Cmp.{alike_right}
use Rattle.def_query.specs.Map.{get}
use Rattle.qe_rules.specs.Known.{HasRisingKeys, IsSameMap, IsAt, IsGapFor}

below_two : (o : Ordering) → ordering_index o ≤ 2
below_two Less = omega arith
below_two Equal = omega arith
below_two Greater = omega arith

split_le : (i j : ℕ) → i ≤ j → (i ≡ j) ⊎ (i < j)
split_le zero zero h = inl refl
split_le zero (suc j) h = inr (omega arith)
split_le (suc i) zero h = absurd (omega arith)
split_le (suc i) (suc j) h = elim (split_le i j (omega arith)) [ inl e ↦ inl (ap suc e) | inr l ↦ inr (omega arith) ]

all_get : {X : Type 0} (P : X → Type 0) (xs : List X) (i : ℕ) (d : X) → AllByRecursion P xs → i < length xs → P (get_or xs i d)
all_get P [] i d a h = absurd (omega arith)
all_get P (x ∷ xs) zero d a h = a.0
all_get P (x ∷ xs) (suc i) d a h = all_get P xs i d a.1 (omega arith)

all_by : {X : Type 0} (P : X → Type 0) (xs : List X) → ((i : ℕ) (d : X) → i < length xs → P (get_or xs i d)) → AllByRecursion P xs
all_by P [] f = tt
all_by P (x ∷ xs) f = (f 0 x (omega arith), all_by P xs (λ i d h. f (suc i) d (omega arith)))

all_take : {X : Type 0} (P : X → Type 0) (xs : List X) (n : ℕ) → n ≤ length xs → AllWithin P xs 0 n → AllByRecursion P (take n xs)
all_take P xs zero l f = tt
all_take P [] (suc n) l f = absurd (omega arith)
all_take P (x ∷ xs) (suc n) l f =
    (f 0 x (omega arith) (omega arith), all_take P xs n (omega arith) (λ k d h g. f (suc k) d (omega arith) (omega arith)))

all_drop : {X : Type 0} (P : X → Type 0) (xs : List X) (n : ℕ) → n ≤ length xs → AllWithin P xs n (length xs) → AllByRecursion P (drop n xs)
all_drop P xs zero l f = all_by P xs (λ i d h. f i d (omega arith) h)
all_drop P [] (suc n) l f = absurd (omega arith)
all_drop P (x ∷ xs) (suc n) l f = all_drop P xs n (omega arith) (λ k d h g. f (suc k) d (omega arith) (omega arith))

joined : {X : Type 0} (xs : List X) (n : ℕ) → take n xs ++ drop n xs ≡ xs
joined xs zero = refl
joined [] (suc n) = refl
joined (x ∷ xs) (suc n) = ap (λ w. x ∷ w) (joined xs n)

module _ {K : Type 0} (cmp : K → K → Ordering) (total : IsTotalOrder cmp) where
  reversed : (x y : K) (o : Ordering) → cmp x y ≡ o → cmp y x ≡ ordering_reverse o
  reversed x y o e = total.antisymm y x ∙ ap ordering_reverse e

  not_above : (x y key : K) → cmp x y ≡ Less → ordering_index (cmp x key) ≤ ordering_index (cmp y key)
  not_above x y key l = go (cmp y key) refl
    where
      go : (o : Ordering) → cmp y key ≡ o → ordering_index (cmp x key) ≤ ordering_index (cmp y key)
      go Less e = let f = total.trans x y key l e in rw (f, e) (omega arith)
      go Equal e = let f : cmp x key ≡ Less = sym (alike_right total y key x e) ∙ l in rw (f, e) (omega arith)
      go Greater e = rw e (below_two (cmp x key))

  tests_equal : (o : Ordering) → is_eq o ≡ true → o ≡ Equal
  tests_equal Less e = let e' : false ≡ true = e in absurd (cc)
  tests_equal Equal e = refl
  tests_equal Greater e = let e' : false ≡ true = e in absurd (cc)

  module _ {A : Type 0} where
    rises : (m : List (K × A)) (i j : ℕ) (d : K × A) → HasRisingKeys cmp m → i < j → j < length m → cmp (get_or m i d).0 (get_or m j d).0 ≡ Less
    rises [] i j d s l h = absurd (omega arith)
    rises (p ∷ m) i zero d s l h = absurd (omega arith)
    rises (p ∷ m) zero (suc j) d s l h = all_get (λ (q : K × A). cmp p.0 q.0 ≡ Less) m j d s.0 (omega arith)
    rises (p ∷ m) (suc i) (suc j) d s l h = rises m i j d s.1 (omega arith) (omega arith)

    searchable : (m : List (K × A)) (key : K) → HasRisingKeys cmp m → IsNonDecreasingBy (λ (p : K × A). ordering_index (cmp p.0 key)) m
    searchable m key s i j d le l =
        elim (split_le i j le) [
          | inl e ↦ subst (λ n. ordering_index (cmp (get_or m i d).0 key) ≤ ordering_index (cmp (get_or m n d).0 key)) e (omega arith)
          | inr lt ↦ not_above (get_or m i d).0 (get_or m j d).0 key (rises m i j d s lt l)
        ]

    -- what a binary search by key finds
    pub searched_ok :
        (m : List (K × A)) (key : K) (r : Result ℕ ℕ) → IsSearchInRange r (length m)
        → IsBinarySearchResult (λ (p : K × A). cmp p.0 key) m r → IfOk r (IsAt cmp m key)
    searched_ok m key (Ok at) l h = record { in_range = l; same = λ d. h d }
    searched_ok m key (Err at) l h = tt

    pub searched_err :
        (m : List (K × A)) (key : K) (r : Result ℕ ℕ) → HasRisingKeys cmp m → IsSearchInRange r (length m)
        → IsBinarySearchResult (λ (p : K × A). cmp p.0 key) m r → IfErr r (IsGapFor cmp m key)
    searched_err m key (Ok at) s l h = tt
    searched_err m key (Err at) s l h =
        let p = h (searchable m key s) in
        record {
          in_range = l;
          less_before = all_take (λ (q : K × A). cmp q.0 key ≡ Less) m at l p.0;
          greater_behind = all_drop (λ (q : K × A). cmp q.0 key ≡ Greater) m at l p.1;
        }

    get_first : (key : K) (p : K × A) (m : List (K × A)) → cmp p.0 key ≡ Equal → get cmp (p ∷ m) key ≡ Some p.1
    get_first key p m e = ap (λ b. cond b (Some p.1) (get cmp m key)) (ap is_eq (reversed p.0 key Equal e))

    get_less : (key : K) (p : K × A) (m : List (K × A)) → cmp p.0 key ≡ Less → get cmp (p ∷ m) key ≡ get cmp m key
    get_less key p m e = ap (λ b. cond b (Some p.1) (get cmp m key)) (ap is_eq (reversed p.0 key Less e))

    get_greater : (key : K) (p : K × A) (m : List (K × A)) → cmp p.0 key ≡ Greater → get cmp (p ∷ m) key ≡ get cmp m key
    get_greater key p m e = ap (λ b. cond b (Some p.1) (get cmp m key)) (ap is_eq (reversed p.0 key Greater e))

    pub get_at : (m : List (K × A)) (key : K) (at : ℕ) (d : K × A) → HasRisingKeys cmp m → IsAt cmp m key at → get cmp m key ≡ Some (get_or m at d).1
    get_at [] key at d s h = absurd (omega (arith, h.in_range))
    get_at (p ∷ m) key zero d s h = get_first key p m (h.same d)
    get_at (p ∷ m) key (suc at) d s h =
        let i : IsAt cmp m key at = record { in_range = omega (arith, h.in_range); same = λ e. h.same e } in
        let l : cmp p.0 (get_or m at d).0 ≡ Less = all_get (λ (q : K × A). cmp p.0 q.0 ≡ Less) m at d s.0 i.in_range in
        let e : cmp p.0 key ≡ Less = sym (alike_right total (get_or m at d).0 key p.0 (i.same d)) ∙ l in
        get_less key p m e ∙ get_at m key at d s.1 i

    -- the two sides of a gap
    abbrev Before : K → List (K × A) → Type 0
    Before key xs = AllByRecursion (λ (p : K × A). cmp p.0 key ≡ Less) xs

    abbrev Behind : K → List (K × A) → Type 0
    Behind key ys = AllByRecursion (λ (p : K × A). cmp p.0 key ≡ Greater) ys

    lacks_sides : (key : K) (xs ys : List (K × A)) → Before key xs → Behind key ys → get cmp (xs ++ ys) key ≡ None
    lacks_sides key [] [] b g = refl
    lacks_sides key [] (p ∷ ys) b g = get_greater key p ys g.0 ∙ lacks_sides key [] ys tt g.1
    lacks_sides key (p ∷ xs) ys b g = get_less key p (xs ++ ys) b.0 ∙ lacks_sides key xs ys b.1 g

    pub get_gap : (m : List (K × A)) (key : K) (at : ℕ) → IsGapFor cmp m key at → get cmp m key ≡ None
    get_gap m key at h =
        subst (λ l. get cmp l key ≡ None) (joined m at)
        (lacks_sides key (take at m) (drop at m) h.less_before h.greater_behind)

    -- two tests that do not hold at once may be made in either order
    either_order : (b c : Bool) (x y z : Option A) → (c ≡ true → b ≡ false) → cond b x (cond c y z) ≡ cond c y (cond b x z)
    either_order true true x y z h = let e : true ≡ false = h refl in absurd (cc)
    either_order true false x y z h = refl
    either_order false true x y z h = refl
    either_order false false x y z h = refl

    gains_sides :
        (key : K) (a : A) (xs ys : List (K × A)) → Before key xs → (q : K)
        → get cmp (xs ++ (key, a) ∷ ys) q ≡ get cmp ((key, a) ∷ (xs ++ ys)) q
    gains_sides key a [] ys b q = refl
    gains_sides key a (p ∷ xs) ys b q =
        ap (cond (eq_by_cmp cmp q p.0) (Some p.1)) (gains_sides key a xs ys b.1 q)
        ∙ either_order (eq_by_cmp cmp q p.0) (eq_by_cmp cmp q key) (Some p.1) (Some a) (get cmp (xs ++ ys) q) apart
      where
        apart : eq_by_cmp cmp q key ≡ true → eq_by_cmp cmp q p.0 ≡ false
        apart t =
            let e : cmp key q ≡ Equal = reversed q key Equal (tests_equal (cmp q key) t) in
            let l : cmp p.0 q ≡ Less = sym (alike_right total key q p.0 e) ∙ b.0 in
            ap is_eq (reversed p.0 q Less l)

    all_between :
        (P : K × A → Type 0) (x : K × A) (xs ys : List (K × A))
        → AllByRecursion P (xs ++ ys) → P x → AllByRecursion P (xs ++ x ∷ ys)
    all_between P x [] ys a h = (h, a)
    all_between P x (z ∷ xs) ys a h = (a.0, all_between P x xs ys a.1 h)

    behind_rises : (key : K) (ys : List (K × A)) → Behind key ys → AllByRecursion (λ (q : K × A). cmp key q.0 ≡ Less) ys
    behind_rises key [] b = tt
    behind_rises key (y ∷ ys) b = (reversed y.0 key Greater b.0, behind_rises key ys b.1)

    rising_sides :
        (key : K) (a : A) (xs ys : List (K × A)) → Before key xs → Behind key ys
        → HasRisingKeys cmp (xs ++ ys) → HasRisingKeys cmp (xs ++ (key, a) ∷ ys)
    rising_sides key a [] ys b g s = (behind_rises key ys g, s)
    rising_sides key a (p ∷ xs) ys b g s =
        (all_between (λ (q : K × A). cmp p.0 q.0 ≡ Less) (key, a) xs ys s.0 b.0, rising_sides key a xs ys b.1 g s.1)

    -- a new pair in the gap for its key
    pub gains_insert :
        (m : List (K × A)) (key : K) (a : A) (at : ℕ) → IsGapFor cmp m key at
        → IsSameMap cmp (insert m at (key, a)) ((key, a) ∷ m)
    gains_insert m key a at h q =
        gains_sides key a (take at m) (drop at m) h.less_before q
        ∙ ap (λ l. get cmp ((key, a) ∷ l) q) (joined m at)

    pub rising_insert :
        (m : List (K × A)) (key : K) (a : A) (at : ℕ) → IsGapFor cmp m key at → HasRisingKeys cmp m
        → HasRisingKeys cmp (insert m at (key, a))
    rising_insert m key a at h s =
        rising_sides key a (take at m) (drop at m) h.less_before h.greater_behind
        (subst (HasRisingKeys cmp) (sym (joined m at)) s)

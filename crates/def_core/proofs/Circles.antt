-- The cycle that an Ask comes to is that of its key.
use Rattle.std.proofs.Common.{◌≡◌, ◌⊎◌, inl, inr, ℕ, Bool, true, false, cond, List, [], ◌∷◌, ◌++◌, length, Some, refl, sym, ◌∙◌, ap, subst, take, drop}
use Rattle.std.specs.Cmp.{IsTotalOrder}
use Rattle.std.specs.Ordering.{is_lt, ordering_reverse}
use Rattle.std.specs.declared.cmp.Ordering.{Ordering}
use Rattle.std.specs.declared.cmp.Ordering.TheVariants.{Less, Equal}
use Rattle.def_query.specs.Cycle.{IsCycleOf}
use Rattle.def_query.specs.Keys.{AreDistinct, IsWalk}
use Rattle.def_query.specs.Lawful.{IsLawful}
use Rattle.def_query.specs.Meaning.{Meaning}
use Rattle.def_query.specs.Settles.{Depends}
use Rattle.def_query.proofs.Walks.{walk_along}
use Rattle.def_query.proofs.Least.{LessThanAll, LeastOf, least_of}
use Rattle.def_query.proofs.Loops.{loop_cycle}
use Rattle.def_core.specs.State.{State, caller_at, claimed, last}
use Rattle.def_core.specs.Needs.{Needs, least, rotated, closing}
use Rattle.def_core.proofs.Paths.{IsPathTo, path_is, path_distinct}
use Rattle.std.proofs.Math.Seq.{drop-append_seam, take-append_seam}
use Rattle.def_core.proofs.Closing.{ClosesBy, closing_by, rotated_at}
use Rattle.def_core.proofs.Histories.{no_mid}
use Rattle.def_core.proofs.Lines.{path_grows, follows_path, need_line}
use Rattle.def_core.proofs.Invariant.{Sound}

true_or_false : (b : Bool) → (b ≡ true) ⊎ (b ≡ false)
true_or_false true = inl refl
true_or_false false = inr refl

module _ {K : Type 0} (cmp : K → K → Ordering) (total : IsTotalOrder cmp)
    (one_key : (x y : K) → cmp x y ≡ Equal → x ≡ y) where
  not_lesser : (x y : K) → cmp x y ≡ Less → is_lt (cmp y x) ≡ false
  not_lesser x y e = ap is_lt (total.antisymm y x ∙ ap ordering_reverse e)

  -- the key that is less than all others is the least
  least_is :
      (x : K) (xs before : List K) (key : K) (after : List K) → x ∷ xs ≡ before ++ key ∷ after
      → LessThanAll cmp total one_key key before → LessThanAll cmp total one_key key after → least cmp x xs ≡ key
  least_is x [] [] key after e a b = let e' : x ∷ [] ≡ key ∷ after = e in cc
  least_is x [] (z ∷ before) key after e a b =
      let e' : x ∷ [] ≡ z ∷ (before ++ key ∷ after) = e in
      absurd (no_mid before key after (let f : [] ≡ before ++ key ∷ after = cc in f))
  least_is x (y ∷ ys) [] key [] e a b = absurd (let e' : x ∷ y ∷ ys ≡ key ∷ [] = e in cc)
  least_is x (y ∷ ys) [] key (z ∷ after) e a b =
      let e' : x ∷ y ∷ ys ≡ key ∷ z ∷ after = e in
      let ex : key ≡ x = cc in
      let ez : z ≡ y = cc in
      let lesser : cmp x y ≡ Less = subst (λ q. cmp q y ≡ Less) ex (subst (λ q. cmp key q ≡ Less) ez b.0) in
      ap (λ v. cond v (least cmp y ys) (least cmp x ys)) (not_lesser x y lesser)
      ∙ least_is x ys [] key after (let f : x ∷ ys ≡ key ∷ after = cc in f) a b.1
  least_is x (y ∷ ys) (z ∷ []) key after e a b =
      let e' : x ∷ y ∷ ys ≡ z ∷ key ∷ after = e in
      let ez : z ≡ x = cc in
      let ek : key ≡ y = cc in
      let lesser : cmp y x ≡ Less = subst (λ q. cmp q x ≡ Less) ek (subst (λ q. cmp key q ≡ Less) ez a.0) in
      ap (λ v. cond v (least cmp y ys) (least cmp x ys)) (ap is_lt lesser)
      ∙ least_is y ys [] key after (let f : y ∷ ys ≡ key ∷ after = cc in f) tt b
  least_is x (y ∷ ys) (z ∷ w ∷ before) key after e a b =
      let e' : x ∷ y ∷ ys ≡ z ∷ w ∷ (before ++ key ∷ after) = e in
      let ez : x ≡ z = cc in
      let ew : y ≡ w = cc in
      let et : ys ≡ before ++ key ∷ after = cc in
      elim (true_or_false (is_lt (cmp y x))) [
        | inl q ↦
            ap (λ v. cond v (least cmp y ys) (least cmp x ys)) q
            ∙ least_is y ys (w ∷ before) key after (let f : y ∷ ys ≡ w ∷ (before ++ key ∷ after) = cc in f) a.1 b
        | inr q ↦
            ap (λ v. cond v (least cmp y ys) (least cmp x ys)) q
            ∙ least_is x ys (z ∷ before) key after (let f : x ∷ ys ≡ z ∷ (before ++ key ∷ after) = cc in f) (a.0, a.1.1) b
      ]

  -- distinct keys rotated begin at their least key
  rotated_is :
      (x : K) (xs : List K) → AreDistinct (x ∷ xs) → (l : LeastOf cmp total one_key (x ∷ xs))
      → rotated cmp (x ∷ xs) ≡ l.key ∷ (l.after ++ l.before)
  rotated_is x xs d l =
      let m : least cmp x xs ≡ l.key = least_is x xs l.before l.key l.after l.is l.less_before l.less_after in
      let is : x ∷ xs ≡ l.before ++ least cmp x xs ∷ l.after = l.is ∙ ap (λ k. l.before ++ k ∷ l.after) (sym m) in
      rotated_at cmp total one_key x xs l.before l.after (length l.before) d is refl
      ∙ (ap (λ w. drop (length l.before) w ++ take (length l.before) w) l.is
      ∙ (ap (λ w. w ++ take (length l.before) (l.before ++ l.key ∷ l.after)) (drop-append_seam l.before (l.key ∷ l.after))
      ∙ ap (λ w. (l.key ∷ l.after) ++ w) (take-append_seam l.before (l.key ∷ l.after))))

  -- the same of keys that are these, turned into y
  turned_is :
      (x : K) (xs keys y : List K) → AreDistinct (x ∷ xs) → (l : LeastOf cmp total one_key (x ∷ xs))
      → keys ≡ x ∷ xs → rotated cmp keys ≡ y → l.key ∷ (l.after ++ l.before) ≡ y
  turned_is x xs keys y d l is turned = sym (rotated_is x xs d l) ∙ (ap (rotated cmp) (sym is) ∙ turned)

module _ {K A : Type 0} (cmp : K → K → Ordering) (total : IsTotalOrder cmp) (r : Meaning K A)
    (lawful : IsLawful cmp r) where
  -- current needs are what keys depend on
  pub needs_depend : (s : State K A) (x y : K) → Sound cmp total r lawful s → Needs cmp s.callers x y → Depends cmp r x y
  needs_depend s x y sound e =
      let l = need_line cmp total lawful.one_key s.callers x y sound.tidy.distinct e in
      follows_path (Depends cmp r) _ x y (sound.paths l.at) l.follows

  -- the keys of a loop, rotated, are the cycle of its first key
  loop_rotated :
      (k : K) (rest keys y : List K) → IsWalk (Depends cmp r) k (rest ++ k ∷ []) → AreDistinct (k ∷ rest)
      → keys ≡ k ∷ rest → rotated cmp keys ≡ y → IsCycleOf cmp r k y
  loop_rotated k rest keys y closed d is turned =
      let l : LeastOf cmp total lawful.one_key (k ∷ rest) = least_of cmp total lawful.one_key k rest d in
      subst (IsCycleOf cmp r k) (turned_is cmp total lawful.one_key k rest keys y d l is turned)
      (loop_cycle cmp total r lawful k k rest (inl refl) closed l)

  pub circle_right :
      (s : State K A) (c : ℕ) (k : K) (y : List K) → Sound cmp total r lawful s
      → closing cmp s.callers c k ≡ Some y → ((t : K) → last (caller_at s.callers c).chain ≡ Some t → Depends cmp r t k)
      → IsCycleOf cmp r k y
  circle_right s c k y sound e depends =
      let q : ClosesBy cmp total lawful.one_key s.callers c k y =
      closing_by cmp total lawful.one_key s.callers c k y e in
      let p : IsPathTo cmp total lawful.one_key s.callers k q.top q.keys =
      path_is cmp total lawful.one_key s.callers (length (claimed s.callers)) k q.top q.keys q.found in
      let d : AreDistinct (k ∷ p.rest) =
      subst AreDistinct p.is
      (path_distinct cmp total lawful.one_key s.callers (length (claimed s.callers)) k q.top q.keys q.found) in
      let w : IsWalk (Depends cmp r) k p.rest =
      walk_along (Needs cmp s.callers) (Depends cmp r) (λ x z h. needs_depend s x z sound h) k p.rest p.walk in
      let closed : IsWalk (Depends cmp r) k (p.rest ++ k ∷ []) =
      path_grows (Depends cmp r) (k ∷ p.rest) k w
      (λ t h. depends t (let f : Some q.top ≡ Some t = sym p.ends ∙ h in q.as_last ∙ f)) in
      loop_rotated k p.rest q.keys y closed d p.is (sym q.turned)

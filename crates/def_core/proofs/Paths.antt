-- Paths of current needs.
use Rattle.std.proofs.Common.{◌≡◌, ◌≢◌, inl, inr, ℕ, zero, suc, ◌+◌, ◌≤◌, true, cond, List, [], ◌∷◌, ◌++◌, length, Option, Some, None, refl, sym, ◌∙◌, ap, subst, arith}
use Rattle.std.specs.Cmp.{IsTotalOrder}
use Rattle.std.specs.Prelude.{option_map, option_and_then}
use Rattle.std.specs.Ordering.{eq_by_cmp, is_eq}
use Rattle.std.specs.declared.cmp.Ordering.{Ordering}
use Rattle.std.specs.declared.cmp.Ordering.TheVariants.{Equal}
use Rattle.std.proofs.lemmas.Cmp.{tied_itself}
use Rattle.def_query.specs.Keys.{IsIn, AreDistinct, IsWalk, Reaches}
use Rattle.def_query.proofs.Maps.{Same, Apart, compared}
use Rattle.def_query.proofs.Walks.{leads_step, leads_reaches, Place, place_of}
use Rattle.def_core.specs.State.{Caller, claimed, last}
use Rattle.def_core.specs.Needs.{need, Needs, path}
use Rattle.def_core.proofs.Lists.{length_within}
use Rattle.def_core.proofs.Chains.{Has, Lacks, found, need_free}

module _ {K : Type 0} (cmp : K → K → Ordering) (total : IsTotalOrder cmp)
    (one_key : (x y : K) → cmp x y ≡ Equal → x ≡ y) (callers : List (Caller K)) where
  -- what a path is: it ends where its key is the last one, or goes on with the current need
  pub data PathView (n : ℕ) (k t : K) (p : List K) : Type 0 where
    Ends : k ≡ t → p ≡ k ∷ [] → PathView n k t p
    Goes :
        k ≢ t → (y : K) → need cmp callers k ≡ Some y → (q : List K) → path cmp callers n y t ≡ Some q → p ≡ k ∷ q
        → PathView n k t p

  some_map :
      (k : K) (o : Option (List K)) (p : List K) → option_map (λ q. k ∷ q) o ≡ Some p
      → (q : List K) × (o ≡ Some q) × (p ≡ k ∷ q)
  some_map k None p e = absurd (let f : None ≡ Some p = e in cc)
  some_map k (Some q) p e = (q, refl, (let f : Some (k ∷ q) ≡ Some p = e in cc))

  some_then :
      (f : K → Option (List K)) (o : Option K) (p : List K) → option_and_then f o ≡ Some p
      → (y : K) × (o ≡ Some y) × (f y ≡ Some p)
  some_then f None p e = absurd (let g : None ≡ Some p = e in cc)
  some_then f (Some y) p e = (y, refl, e)

  -- the step of a path
  path_here : (n : ℕ) (k t : K) → k ≡ t → path cmp callers (suc n) k t ≡ Some (k ∷ [])
  path_here n k t e =
      ap (λ b. cond b (Some (k ∷ [])) (option_map (λ p. k ∷ p) (option_and_then (λ y. path cmp callers n y t) (need cmp callers k))))
      (subst (λ z. eq_by_cmp cmp k z ≡ true) e (ap is_eq (tied_itself total k)))

  path_there :
      (n : ℕ) (k t : K) → k ≢ t
      → path cmp callers (suc n) k t ≡ option_map (λ p. k ∷ p) (option_and_then (λ y. path cmp callers n y t) (need cmp callers k))
  path_there n k t apart =
      elim (compared cmp total one_key k t) [
        | Same e _ ↦ absurd (apart e)
        | Apart _ e ↦ ap (λ b. cond b (Some (k ∷ [])) (option_map (λ p. k ∷ p) (option_and_then (λ y. path cmp callers n y t) (need cmp callers k)))) e
      ]

  pub path_view : (n : ℕ) (k t : K) (p : List K) → path cmp callers (suc n) k t ≡ Some p → PathView n k t p
  path_view n k t p e =
      elim (compared cmp total one_key k t) [
        | Same s _ ↦ Ends s (let f : Some p ≡ Some (k ∷ []) = sym e ∙ path_here n k t s in cc)
        | Apart a _ ↦
            (let m = some_map k (option_and_then (λ y. path cmp callers n y t) (need cmp callers k)) p (sym (path_there n k t a) ∙ e) in
            let s = some_then (λ y. path cmp callers n y t) (need cmp callers k) m.0 m.1 in
            Goes a s.0 s.1 m.0 s.2 m.2)
      ]

  pub path_end : (n : ℕ) (k t : K) → k ≡ t → path cmp callers (suc n) k t ≡ Some (k ∷ [])
  path_end n k t e = path_here n k t e

  pub path_go :
      (n : ℕ) (k t y : K) (q : List K) → k ≢ t → need cmp callers k ≡ Some y → path cmp callers n y t ≡ Some q
      → path cmp callers (suc n) k t ≡ Some (k ∷ q)
  path_go n k t y q a e f =
      path_there n k t a
      ∙ (ap (λ o. option_map (λ p. k ∷ p) (option_and_then (λ y. path cmp callers n y t) o)) e
      ∙ ap (option_map (λ p. k ∷ p)) f)

  -- what a step of a path is where the need is known
  pub path_step :
      (n : ℕ) (k t y : K) → k ≢ t → need cmp callers k ≡ Some y
      → path cmp callers (suc n) k t ≡ option_map (λ p. k ∷ p) (path cmp callers n y t)
  path_step n k t y a e =
      path_there n k t a ∙ ap (λ o. option_map (λ p. k ∷ p) (option_and_then (λ y. path cmp callers n y t) o)) e

  pub path_stuck : (n : ℕ) (k t : K) → k ≢ t → need cmp callers k ≡ None → path cmp callers n k t ≡ None
  path_stuck zero k t a e = refl
  path_stuck (suc n) k t a e =
      path_there n k t a ∙ ap (λ o. option_map (λ p. k ∷ p) (option_and_then (λ y. path cmp callers n y t) o)) e

  -- with more steps the same path is found
  pub path_more :
      (n m : ℕ) (k t : K) (p : List K) → n ≤ m → path cmp callers n k t ≡ Some p → path cmp callers m k t ≡ Some p
  path_more zero m k t p h e = absurd (let f : None ≡ Some p = e in cc)
  path_more (suc n) zero k t p h e = absurd (omega arith)
  path_more (suc n) (suc m) k t p h e =
      elim (path_view n k t p e) [
        | Ends s f ↦ path_here m k t s ∙ ap Some (sym f)
        | Goes a y g q i f ↦ path_go m k t y q a g (path_more n m y t q (omega arith) i) ∙ ap Some (sym f)
      ]

  -- a path has as many steps as it needs
  pub path_enough :
      (n : ℕ) (k t : K) (p : List K) → path cmp callers n k t ≡ Some p → path cmp callers (length p) k t ≡ Some p
  path_enough zero k t p e = absurd (let f : None ≡ Some p = e in cc)
  path_enough (suc n) k t p e =
      elim (path_view n k t p e) [
        | Ends s f ↦ subst (λ z. path cmp callers (length z) k t ≡ Some z) (sym f) (path_here 0 k t s)
        | Goes a y g q i f ↦
            subst (λ z. path cmp callers (length z) k t ≡ Some z) (sym f)
            (path_go (length q) k t y q a g (path_enough n y t q i))
      ]

  -- a path is a walk of current needs that ends at its last key
  pub record IsPathTo (k t : K) (p : List K) : Type 0 where
    pub rest : List K
    pub is : p ≡ k ∷ rest
    pub walk : IsWalk (Needs cmp callers) k rest
    pub ends : last (k ∷ rest) ≡ Some t

  pub path_is : (n : ℕ) (k t : K) (p : List K) → path cmp callers n k t ≡ Some p → IsPathTo k t p
  path_is zero k t p e = absurd (let f : None ≡ Some p = e in cc)
  path_is (suc n) k t p e =
      elim (path_view n k t p e) [
        | Ends s f ↦ record { rest = []; is = f; walk = tt; ends = ap Some s }
        | Goes a y g q i f ↦
            (let ih = path_is n y t q i in
            record {
              rest = y ∷ ih.rest;
              is = f ∙ ap (λ z. k ∷ z) ih.is;
              walk = (g, ih.walk);
              ends = ih.ends;
            })
      ]

  walk_last :
      (k t : K) (xs : List K) → IsWalk (Needs cmp callers) k xs → last (k ∷ xs) ≡ Some t
      → Reaches (Needs cmp callers) k t
  walk_last k t [] w e = inl (let f : Some k ≡ Some t = e in cc)
  walk_last k t (x ∷ xs) w e =
      inr (leads_reaches (Needs cmp callers) k x t (leads_step (Needs cmp callers) k x w.0) (walk_last x t xs w.1 e))

  pub path_reaches : (n : ℕ) (k t : K) (p : List K) → path cmp callers n k t ≡ Some p → Reaches (Needs cmp callers) k t
  path_reaches n k t p e = let s = path_is n k t p e in walk_last k t s.rest s.walk s.ends

  -- and what is reached has a path
  walk_path :
      (k t : K) (xs : List K) → IsWalk (Needs cmp callers) k (xs ++ t ∷ [])
      → (p : List K) × (path cmp callers (suc (suc (length xs))) k t ≡ Some p)
  walk_path k t [] w =
      elim (compared cmp total one_key k t) [
        | Same e _ ↦ (k ∷ [], path_here 1 k t e)
        | Apart a _ ↦ (k ∷ t ∷ [], path_go 1 k t t (t ∷ []) a w.0 (path_here 0 t t refl))
      ]
  walk_path k t (x ∷ xs) w =
      elim (compared cmp total one_key k t) [
        | Same e _ ↦ (k ∷ [], path_here (suc (suc (length xs))) k t e)
        | Apart a _ ↦
            (let ih = walk_path x t xs w.1 in (k ∷ ih.0, path_go (suc (suc (length xs))) k t x ih.0 a w.0 ih.1))
      ]

  pub reached_path :
      (k t : K) → Reaches (Needs cmp callers) k t → (n : ℕ) × (p : List K) × (path cmp callers n k t ≡ Some p)
  reached_path k t (inl e) = (1, k ∷ [], path_here 0 k t e)
  reached_path k t (inr w) = let h = walk_path k t w.0 w.1 in (suc (suc (length w.0)), h.0, h.1)

  -- from each of its keys on a path is a path
  pub path_from :
      (n : ℕ) (k t : K) (p : List K) → path cmp callers n k t ≡ Some p
      → (xs : List K) (x : K) (ys : List K) → p ≡ xs ++ x ∷ ys → path cmp callers n x t ≡ Some (x ∷ ys)
  path_from zero k t p e xs x ys s = absurd (let f : None ≡ Some p = e in cc)
  path_from (suc n) k t p e [] x ys s =
      let i = path_is (suc n) k t p e in
      let f : x ∷ ys ≡ k ∷ i.rest = sym s ∙ i.is in
      let g : x ≡ k = cc in
      subst (λ z. path cmp callers (suc n) z t ≡ Some (x ∷ ys)) (sym g) (e ∙ ap Some s)
  path_from (suc n) k t p e (z ∷ xs) x ys s =
      elim (path_view n k t p e) [
        | Ends u f ↦ absurd (let g : k ∷ [] ≡ z ∷ (xs ++ x ∷ ys) = sym f ∙ s in let h : [] ≡ xs ++ x ∷ ys = cc in no_mid xs x ys h)
        | Goes a y g q i f ↦
            (let h : k ∷ q ≡ z ∷ (xs ++ x ∷ ys) = sym f ∙ s in
            let j : q ≡ xs ++ x ∷ ys = cc in
            path_more n (suc n) x t (x ∷ ys) (omega arith) (path_from n y t q i xs x ys j))
      ]
    where
      no_mid : (xs : List K) (x : K) (ys : List K) → [] ≡ xs ++ x ∷ ys → ⊥
      no_mid [] x ys e = cc
      no_mid (z ∷ xs) x ys e = cc

  same_path : (n : ℕ) (k t : K) (p q : List K) → path cmp callers n k t ≡ Some p → path cmp callers n k t ≡ Some q → p ≡ q
  same_path n k t p q e f = let g : Some p ≡ Some q = sym e ∙ f in cc

  length_around : (xs : List K) (x : K) (ys : List K) → length (xs ++ x ∷ ys) ≡ length xs + suc (length ys)
  length_around [] x ys = omega arith
  length_around (z ∷ xs) x ys = let e = length_around xs x ys in omega arith

  -- a path never comes back to its first key
  path_apart : (n : ℕ) (k t : K) (rest : List K) → path cmp callers n k t ≡ Some (k ∷ rest) → ¬ IsIn k rest
  path_apart n k t rest e h =
      let p : Place k rest = place_of k rest h in
      let f : path cmp callers n k t ≡ Some (k ∷ p.after) =
      path_from n k t (k ∷ rest) e (k ∷ p.before) k p.after (ap (λ z. k ∷ z) p.is) in
      let g : k ∷ p.after ≡ k ∷ rest = same_path n k t (k ∷ p.after) (k ∷ rest) f e in
      let i : p.after ≡ rest = cc in
      let j : length p.after ≡ length p.before + suc (length p.after) =
      ap length i ∙ (ap length p.is ∙ length_around p.before k p.after) in
      absurd (omega arith)

  -- the keys of a path are distinct
  pub path_distinct : (n : ℕ) (k t : K) (p : List K) → path cmp callers n k t ≡ Some p → AreDistinct p
  path_distinct zero k t p e = absurd (let f : None ≡ Some p = e in cc)
  path_distinct (suc n) k t p e =
      elim (path_view n k t p e) [
        | Ends s f ↦ subst AreDistinct (sym f) ((λ h. h), tt)
        | Goes a y g q i f ↦
            subst AreDistinct (sym f)
            (path_apart (suc n) k t q (e ∙ ap Some f), path_distinct n y t q i)
      ]

  -- where a key has a need, it is claimed
  pub need_claimed : (k y : K) → need cmp callers k ≡ Some y → IsIn k (claimed callers)
  need_claimed k y e =
      elim (found cmp total one_key k (claimed callers)) [
        | Has h _ ↦ h
        | Lacks h _ ↦ absurd (let f : Some y ≡ None = sym e ∙ need_free cmp total one_key callers k h in cc)
      ]

  -- the keys of a path to a claimed key are claimed
  pub path_claimed :
      (n : ℕ) (k t : K) (p : List K) → IsIn t (claimed callers) → path cmp callers n k t ≡ Some p → (z : K) → IsIn z p
      → IsIn z (claimed callers)
  path_claimed zero k t p c e z h = absurd (let f : None ≡ Some p = e in cc)
  path_claimed (suc n) k t p c e z h =
      elim (path_view n k t p e) [
        | Ends s f ↦ elim (subst (IsIn z) f h) [ inl g ↦ subst (λ w. IsIn w (claimed callers)) (sym (g ∙ s)) c | inr g ↦ absurd g ]
        | Goes a y g q i f ↦ elim (subst (IsIn z) f h) [
          | inl j ↦ subst (λ w. IsIn w (claimed callers)) (sym j) (need_claimed k y g)
          | inr j ↦ path_claimed n y t q c i z j
        ]
      ]

  pub path_bounded :
      (n : ℕ) (k t : K) (p : List K) → IsIn t (claimed callers) → path cmp callers n k t ≡ Some p
      → length p ≤ length (claimed callers)
  path_bounded n k t p c e = length_within p (claimed callers) (path_distinct n k t p e) (path_claimed n k t p c e)

  -- as many steps as keys are claimed are enough
  pub path_whole :
      (n : ℕ) (k t : K) (p : List K) → IsIn t (claimed callers) → path cmp callers n k t ≡ Some p
      → path cmp callers (length (claimed callers)) k t ≡ Some p
  path_whole n k t p c e =
      path_more (length p) (length (claimed callers)) k t p (path_bounded n k t p c e) (path_enough n k t p e)

  pub path_exact :
      (n : ℕ) (k t : K) → IsIn t (claimed callers) → length (claimed callers) ≤ n
      → path cmp callers n k t ≡ path cmp callers (length (claimed callers)) k t
  path_exact n k t c h = go (path cmp callers n k t) refl
    where
      go :
          (o : Option (List K)) → path cmp callers n k t ≡ o
          → path cmp callers n k t ≡ path cmp callers (length (claimed callers)) k t
      go (Some p) e = e ∙ sym (path_whole n k t p c e)
      go None e = none (path cmp callers (length (claimed callers)) k t) refl
        where
          none :
              (o : Option (List K)) → path cmp callers (length (claimed callers)) k t ≡ o
              → path cmp callers n k t ≡ path cmp callers (length (claimed callers)) k t
          none None f = e ∙ sym f
          none (Some p) f =
              absurd (let g : None ≡ Some p = sym e ∙ path_more (length (claimed callers)) n k t p h f in cc)

  -- what current needs reach has the path
  pub reached_whole :
      (k t : K) → IsIn t (claimed callers) → Reaches (Needs cmp callers) k t
      → (p : List K) × (path cmp callers (length (claimed callers)) k t ≡ Some p)
  reached_whole k t c h = let r = reached_path k t h in (r.1, path_whole r.0 k t r.1 c r.2)

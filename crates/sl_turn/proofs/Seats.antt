-- Views of seats in a row: sums over them, and pairs of them.
use Rattle.std.proofs.Common.{◌≡◌, ◌≢◌, ◌⊎◌, ℕ, zero, suc, ◌+◌, ◌<◌, ◌≤◌, List, [], ◌∷◌, ◌++◌, length, set, refl, ap, sym, ◌∙◌, subst, inl, inr, ⊎_elim, arith}
use mathlib.Core.Option.{some, some-injective, some-ne-none}
use lib.ListN.{get_elem?}
use Rattle.atomic_table.proofs.Lists.{at_set}
use Rattle.sl_turn.specs.declared.view.View.{View}
use Rattle.sl_turn.specs.Rule.{total, At, Apart}

module _ {A : Type 0} where
  pub total_set : (f : A → ℕ) (l : List A) (i : ℕ) (a b : A) → get_elem? l i ≡ some a → total f (set l i b) + f a ≡ total f l + f b
  total_set f [] i a b e = absurd (some-ne-none a (sym e))
  total_set f (x ∷ xs) zero a b e = let is : f x ≡ f a = ap f (some-injective x a e) in omega arith
  total_set f (x ∷ xs) (suc i) a b e = let more = total_set f xs i a b e in omega arith

  pub total_end : (f : A → ℕ) (l : List A) (a : A) → total f (l ++ a ∷ []) ≡ total f l + f a
  total_end f [] a = omega arith
  total_end f (x ∷ xs) a = let more = total_end f xs a in omega arith

  pub at_end : (l : List A) (a b : A) (j : ℕ) → get_elem? (l ++ a ∷ []) j ≡ some b → (get_elem? l j ≡ some b) ⊎ ((j ≡ length l) × (a ≡ b))
  at_end [] a b zero e = inr (refl, some-injective a b e)
  at_end [] a b (suc j) e = absurd (some-ne-none b (sym e))
  at_end (x ∷ xs) a b zero e = inl e
  at_end (x ∷ xs) a b (suc j) e = ⊎_elim inl (λ t. inr (ap suc t.0, t.1)) (at_end xs a b j e)

  pub at_inside : (l : List A) (i : ℕ) (a : A) → get_elem? l i ≡ some a → i < length l
  at_inside [] i a e = absurd (some-ne-none a (sym e))
  at_inside (x ∷ xs) zero a e = omega arith
  at_inside (x ∷ xs) (suc i) a e = let h = at_inside xs i a e in omega arith

  pub same_at : (l : List A) (i : ℕ) (a b : A) → get_elem? l i ≡ some a → get_elem? l i ≡ some b → a ≡ b
  same_at l i a b p q = some-injective a b (sym p ∙ q)

  pub total_le : (f g : A → ℕ) (l : List A) → ((j : ℕ) (a : A) → get_elem? l j ≡ some a → f a ≤ g a) → total f l ≤ total g l
  total_le f g [] h = omega arith
  total_le f g (x ∷ xs) h = let a = h 0 x refl in let b = total_le f g xs (λ j y e. h (suc j) y e) in omega arith

module _ {S E : Type 0} where
  -- where the view of the seat id becomes w, pairs stay apart if w pairs with no other
  pub apart_changed : (R : View S E → View S E → Type 0) (views : List (View S E)) (id : ℕ) (w : View S E) → Apart R views
      → ((j : ℕ) (x : View S E) → j ≢ id → At views j x → R w x → ⊥) → ((j : ℕ) (x : View S E) → j ≢ id → At views j x → R x w → ⊥) → Apart R (set views id w)
  apart_changed R views id w apart left right i j a b p q r = ⊎_elim
      (λ (t : (i ≡ id) × (w ≡ a)). ⊎_elim
      (λ (u : (j ≡ id) × (w ≡ b)). t.0 ∙ sym u.0)
      (λ (u : (j ≢ id) × At views j b). absurd (left j b u.0 u.1 (subst (λ (z : View S E). R z b) (sym t.1) r)))
      (at_set views id j w b q))
      (λ (t : (i ≢ id) × At views i a). ⊎_elim
      (λ (u : (j ≡ id) × (w ≡ b)). absurd (right i a t.0 t.1 (subst (λ (z : View S E). R a z) (sym u.1) r)))
      (λ (u : (j ≢ id) × At views j b). apart i j a b t.1 u.1 r)
      (at_set views id j w b q))
      (at_set views id i w a p)

  -- the same if w pairs with no more than what was there before
  pub apart_set : (R : View S E → View S E → Type 0) (views : List (View S E)) (id : ℕ) (v w : View S E) → At views id v → Apart R views
      → ((x : View S E) → R w x → R v x) → ((x : View S E) → R x w → R x v) → Apart R (set views id w)
  apart_set R views id v w at apart left right = apart_changed R views id w apart
      (λ j x other here r. other (sym (apart id j v x at here (left x r))))
      (λ j x other here r. other (apart j id x v here at (right x r)))

  -- a new view that pairs with none stays apart
  pub apart_end : (R : View S E → View S E → Type 0) (views : List (View S E)) (w : View S E) → Apart R views
      → ((j : ℕ) (x : View S E) → At views j x → R w x → ⊥) → ((j : ℕ) (x : View S E) → At views j x → R x w → ⊥) → Apart R (views ++ w ∷ [])
  apart_end R views w apart left right i j a b p q r = ⊎_elim
      (λ (t : At views i a). ⊎_elim
      (λ (u : At views j b). apart i j a b t u r)
      (λ (u : (j ≡ length views) × (w ≡ b)). absurd (right i a t (subst (λ (z : View S E). R a z) (sym u.1) r)))
      (at_end views w b j q))
      (λ (t : (i ≡ length views) × (w ≡ a)). ⊎_elim
      (λ (u : At views j b). absurd (left j b u (subst (λ (z : View S E). R z b) (sym t.1) r)))
      (λ (u : (j ≡ length views) × (w ≡ b)). t.0 ∙ sym u.0)
      (at_end views w b j q))
      (at_end views w a i p)

  -- the views where the seat id was joined with another: the joined one, the spent one, and the others
  abbrev pub Either : List (View S E) → ℕ → ℕ → View S E → View S E → ℕ → View S E → Type 0
  Either views id other both gone j x = ((j ≡ other) × (gone ≡ x)) ⊎ (((j ≡ id) × (both ≡ x)) ⊎ ((j ≢ other) × (j ≢ id) × At views j x))

  pub at_joined : (views : List (View S E)) (id other : ℕ) (both gone : View S E) (j : ℕ) (x : View S E) → At (set (set views id both) other gone) j x → Either views id other both gone j x
  at_joined views id other both gone j x p = ⊎_elim
      (λ (t : (j ≡ other) × (gone ≡ x)). inl t)
      (λ (t : (j ≢ other) × At (set views id both) j x). inr (⊎_elim (λ (u : (j ≡ id) × (both ≡ x)). inl u) (λ (u : (j ≢ id) × At views j x). inr (t.0, u.0, u.1)) (at_set views id j both x t.1)))
      (at_set (set views id both) other j gone x p)

  pub apart_joined : (R : View S E → View S E → Type 0) (views : List (View S E)) (id other : ℕ) (v u both gone : View S E) → At views id v → At views other u → Apart R views
      → ((x : View S E) → R gone x → ⊥) → ((x : View S E) → R x gone → ⊥)
      → ((x : View S E) → R both x → R v x ⊎ R u x) → ((x : View S E) → R x both → R x v ⊎ R x u) → Apart R (set (set views id both) other gone)
  apart_joined R views id other v u both gone at at' apart no_left no_right left right i j a b p q r = ⊎_elim
      (λ (t : (i ≡ other) × (gone ≡ a)). absurd (no_left b (subst (λ (z : View S E). R z b) (sym t.1) r)))
      (λ t'. ⊎_elim
      (λ (w : (j ≡ other) × (gone ≡ b)). absurd (no_right a (subst (λ (z : View S E). R a z) (sym w.1) r)))
      (λ w'. pairs t' w')
      (at_joined views id other both gone j b q))
      (at_joined views id other both gone i a p)
    where
      pairs : (((i ≡ id) × (both ≡ a)) ⊎ ((i ≢ other) × (i ≢ id) × At views i a)) → (((j ≡ id) × (both ≡ b)) ⊎ ((j ≢ other) × (j ≢ id) × At views j b)) → i ≡ j
      pairs (inl t) (inl w) = t.0 ∙ sym w.0
      pairs (inl t) (inr w) = let r' : R both b = subst (λ (z : View S E). R z b) (sym t.1) r in
          ⊎_elim (λ (h : R v b). absurd (w.1 (sym (apart id j v b at w.2 h)))) (λ (h : R u b). absurd (w.0 (sym (apart other j u b at' w.2 h)))) (left b r')
      pairs (inr t) (inl w) = let r' : R a both = subst (λ (z : View S E). R a z) (sym w.1) r in
          ⊎_elim (λ (h : R a v). absurd (t.1 (apart i id a v t.2 at h))) (λ (h : R a u). absurd (t.0 (apart i other a u t.2 at' h))) (right a r')
      pairs (inr t) (inr w) = apart i j a b t.2 w.2 r

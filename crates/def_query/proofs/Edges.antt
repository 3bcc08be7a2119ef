-- The rules of the example are lawful.
use Rattle.std.proofs.Common.{zero, suc, ◌+◌, ◌<◌, length, drop, get_or, arith, ◌≡◌, inl, inr, ℕ, ◌==◌, Bool, true, false, cond, List, [], ◌∷◌, map, Option, Some, None, Ok, Err, refl, sym, ◌∙◌, ap, subst}
use Rattle.std.specs.Ordering.{nat_cmp}
use Rattle.std.proofs.lemmas.Cmp.{nat_cmp_total}
use Rattle.std.proofs.lemmas.Map.Lookups.{exact_unsigned}
use Rattle.std.proofs.lemmas.Bool.Decides.{nat_tests}
use Rattle.def_query.specs.Keys.{IsIn}
use Rattle.def_query.specs.Lawful.{IsLawful}
use Rattle.def_query.specs.Map.{get, IsWithin}
use Rattle.def_query.specs.declared.step.Step.{Step}
use Rattle.def_query.specs.declared.step.Step.TheVariants.{Needs, Done}
use Rattle.def_query.proofs.Maps.{get_here, within_cons}
use Rattle.def_query.specs.Edges.{Told, uses, body_over, last_of, edge_meaning}

if_both : (b : Bool) (x y u v z w : Step ℕ Told) → (x ≡ z → u ≡ w) → (y ≡ z → v ≡ w) → cond b x y ≡ z → cond b u v ≡ w
if_both true x y u v z w f g e = f e
if_both false x y u v z w f g e = g e

if_either : (P : Type 0) (b : Bool) (x y z : Step ℕ Told) → (x ≡ z → P) → (y ≡ z → P) → cond b x y ≡ z → P
if_either P true x y z f g e = f e
if_either P false x y z f g e = g e

done_needs : (a : Told) (y : ℕ) → Done a ≡ Needs y → ⊥
done_needs a y e = cc

done_uses :
    (rest next : Step ℕ Told) (to : ℕ) (o p : Option Told) (a : Told)
    → ((v : Told) → o ≡ Some v → p ≡ Some v) → (rest ≡ Done a → next ≡ Done a)
    → uses rest to o ≡ Done a → uses next to p ≡ Done a
done_uses rest next to None p a f g e = absurd (done_needs a to (sym e))
done_uses rest next to (Some (Ok None)) p a f g e = ap (uses next to) (f (Ok None) refl) ∙ g e
done_uses rest next to (Some (Ok (Some q))) p a f g e = ap (uses next to) (f (Ok (Some q)) refl) ∙ e
done_uses rest next to (Some (Err c)) p a f g e = ap (uses next to) (f (Err c) refl) ∙ e

needs_uses :
    (rest next z : Step ℕ Told) (to : ℕ) (o p : Option Told) (y : ℕ)
    → ((v : Told) → o ≡ Some v → p ≡ Some v) → (to ≡ y → uses next to p ≡ z) → (rest ≡ Needs y → next ≡ z)
    → uses rest to o ≡ Needs y → uses next to p ≡ z
needs_uses rest next z to None p y f h g e = h (cc)
needs_uses rest next z to (Some (Ok None)) p y f h g e = ap (uses next to) (f (Ok None) refl) ∙ g e
needs_uses rest next z to (Some (Ok (Some q))) p y f h g e = absurd (done_needs (Ok (Some q)) y e)
needs_uses rest next z to (Some (Err c)) p y f h g e = absurd (done_needs (Err c) y e)

either_uses :
    (P : Type 0) (rest : Step ℕ Told) (to : ℕ) (o : Option Told) (y : ℕ)
    → (o ≡ None → to ≡ y → P) → (rest ≡ Needs y → P) → uses rest to o ≡ Needs y → P
either_uses P rest to None y h g e = h refl (cc)
either_uses P rest to (Some (Ok None)) y h g e = g e
either_uses P rest to (Some (Ok (Some q))) y h g e = absurd (done_needs (Ok (Some q)) y e)
either_uses P rest to (Some (Err c)) y h g e = absurd (done_needs (Err c) y e)

cycle_uses :
    (P : Type 0) (rest : Step ℕ Told) (to : ℕ) (o : Option Told) (c : List ℕ)
    → (o ≡ Some (Err c) → P) → (rest ≡ Done (Err c) → P) → uses rest to o ≡ Done (Err c) → P
cycle_uses P rest to None c h g e = absurd (done_needs (Err c) to (sym e))
cycle_uses P rest to (Some (Ok None)) c h g e = g e
cycle_uses P rest to (Some (Ok (Some q))) c h g e = absurd (let e' : Done (Ok (Some q)) ≡ Done (Err c) = e in cc)
cycle_uses P rest to (Some (Err d)) c h g e = h (let e' : Done (Err d) ≡ Done (Err c) = e in cc)

module _ (last : Told) (k : ℕ) where
  done_stays :
      (es : List (ℕ × ℕ)) (m n : List (ℕ × Told)) (a : Told)
      → body_over es last k m ≡ Done a → IsWithin nat_cmp m n → body_over es last k n ≡ Done a
  done_stays [] m n a e w = e
  done_stays (d ∷ es) m n a e w =
      if_both (d.0 == k) (uses (body_over es last k m) d.1 (get nat_cmp m d.1)) (body_over es last k m)
      (uses (body_over es last k n) d.1 (get nat_cmp n d.1)) (body_over es last k n) (Done a) (Done a)
      (done_uses (body_over es last k m) (body_over es last k n) d.1 (get nat_cmp m d.1) (get nat_cmp n d.1) a
      (λ v h. w d.1 v h) (λ f. done_stays es m n a f w))
      (λ f. done_stays es m n a f w)
      e

  needs_stay :
      (es : List (ℕ × ℕ)) (m n : List (ℕ × Told)) (y : ℕ)
      → body_over es last k m ≡ Needs y → IsWithin nat_cmp m n → get nat_cmp n y ≡ None
      → body_over es last k n ≡ Needs y
  needs_stay [] m n y e w l = absurd (done_needs last y e)
  needs_stay (d ∷ es) m n y e w l =
      if_both (d.0 == k) (uses (body_over es last k m) d.1 (get nat_cmp m d.1)) (body_over es last k m)
      (uses (body_over es last k n) d.1 (get nat_cmp n d.1)) (body_over es last k n) (Needs y) (Needs y)
      (needs_uses (body_over es last k m) (body_over es last k n) (Needs y) d.1 (get nat_cmp m d.1) (get nat_cmp n d.1) y
      (λ v h. w d.1 v h)
      (λ s. ap (uses (body_over es last k n) d.1) (ap (get nat_cmp n) s ∙ l) ∙ ap Needs s)
      (λ f. needs_stay es m n y f w l))
      (λ f. needs_stay es m n y f w l)
      e

  needs_lacking :
      (es : List (ℕ × ℕ)) (m : List (ℕ × Told)) (y : ℕ) → body_over es last k m ≡ Needs y → get nat_cmp m y ≡ None
  needs_lacking [] m y e = absurd (done_needs last y e)
  needs_lacking (d ∷ es) m y e =
      if_either (get nat_cmp m y ≡ None) (d.0 == k) (uses (body_over es last k m) d.1 (get nat_cmp m d.1)) (body_over es last k m) (Needs y)
      (either_uses (get nat_cmp m y ≡ None) (body_over es last k m) d.1 (get nat_cmp m d.1) y
      (λ n s. ap (get nat_cmp m) (sym s) ∙ n) (needs_lacking es m y))
      (needs_lacking es m y)
      e

  circular_stays :
      (es : List (ℕ × ℕ)) (m : List (ℕ × Told)) (y : ℕ) (c : List ℕ) → get nat_cmp m y ≡ None
      → body_over es last k m ≡ Needs y → body_over es last k ((y, Err c) ∷ m) ≡ Done (Err c)
  circular_stays [] m y c l e = absurd (done_needs last y e)
  circular_stays (d ∷ es) m y c l e =
      if_both (d.0 == k) (uses (body_over es last k m) d.1 (get nat_cmp m d.1)) (body_over es last k m)
      (uses (body_over es last k ((y, Err c) ∷ m)) d.1 (get nat_cmp ((y, Err c) ∷ m) d.1)) (body_over es last k ((y, Err c) ∷ m)) (Needs y) (Done (Err c))
      (needs_uses (body_over es last k m) (body_over es last k ((y, Err c) ∷ m)) (Done (Err c)) d.1 (get nat_cmp m d.1) (get nat_cmp ((y, Err c) ∷ m) d.1) y
      (λ v h. within_cons nat_cmp nat_cmp_total exact_unsigned y (Err c) m l d.1 v h)
      (λ s. ap (uses (body_over es last k ((y, Err c) ∷ m)) d.1) (ap (get nat_cmp ((y, Err c) ∷ m)) s ∙ get_here nat_cmp nat_cmp_total exact_unsigned y (Err c) m))
      (λ f. circular_stays es m y c l f))
      (λ f. circular_stays es m y c l f)
      e

  circular_used :
      (es : List (ℕ × ℕ)) (m : List (ℕ × Told)) (c : List ℕ) → (last ≡ Err c → ⊥)
      → body_over es last k m ≡ Done (Err c) → (y : ℕ) × (get nat_cmp m y ≡ Some (Err c))
  circular_used [] m c l e = absurd (l (let e' : Done last ≡ Done (Err c) = e in cc))
  circular_used (d ∷ es) m c l e =
      if_either ((y : ℕ) × (get nat_cmp m y ≡ Some (Err c))) (d.0 == k) (uses (body_over es last k m) d.1 (get nat_cmp m d.1)) (body_over es last k m) (Done (Err c))
      (cycle_uses ((y : ℕ) × (get nat_cmp m y ≡ Some (Err c))) (body_over es last k m) d.1 (get nat_cmp m d.1) c
      (λ h. (d.1, h)) (circular_used es m c l))
      (circular_used es m c l)
      e

  needs_in :
      (es : List (ℕ × ℕ)) (m : List (ℕ × Told)) (y : ℕ) → body_over es last k m ≡ Needs y → IsIn y (map (λ (e : ℕ × ℕ). e.1) es)
  needs_in [] m y e = absurd (done_needs last y e)
  needs_in (d ∷ es) m y e =
      if_either (IsIn y (map (λ (e : ℕ × ℕ). e.1) (d ∷ es))) (d.0 == k) (uses (body_over es last k m) d.1 (get nat_cmp m d.1)) (body_over es last k m) (Needs y)
      (either_uses (IsIn y (map (λ (e : ℕ × ℕ). e.1) (d ∷ es))) (body_over es last k m) d.1 (get nat_cmp m d.1) y
      (λ n s. inl (sym s)) (λ f. inr (needs_in es m y f)))
      (λ f. inr (needs_in es m y f))
      e

pub edges_lawful : (edges : List (ℕ × ℕ)) (bad : ℕ) → IsLawful nat_cmp (edge_meaning edges bad)
edges_lawful edges bad = record {
  one_key = exact_unsigned;
  done_stays = λ k m n a e w. done_stays (last_of bad k) k edges m n a e w;
  needs_stay = λ k m n y e w l. needs_stay (last_of bad k) k edges m n y e w l;
  needs_lacking = λ k m y e. needs_lacking (last_of bad k) k edges m y e;
  circular_stays = λ k m y c e. circular_stays (last_of bad k) k edges m y c (needs_lacking (last_of bad k) k edges m y e) e;
  circular_used = λ k m c e. circular_used (last_of bad k) k edges m c (λ h. let h' : Ok (cond (bad == k) (Some k) None) ≡ Err c = h in cc) e;
  bound_has = λ k. inl refl;
  bound_closed = λ k x y i d. inr (needs_in (last_of bad x) x edges d.earlier y d.needs);
}

same_test : (a b : ℕ) → a ≡ b → (a == b) ≡ true
same_test a b e = grind (arith, nat_tests)

other_test : (a b : ℕ) → (a ≡ b → ⊥) → (a == b) ≡ false
other_test a b e = grind (arith, nat_tests)

-- what the edges from a place on give, where the edge at this place is used
pub edge_used :
    (es : List (ℕ × ℕ)) (i : ℕ) (e : ℕ × ℕ) (last : Told) (k : ℕ) (m : List (ℕ × Told))
    → i < length es → e ≡ get_or es i e → e.0 ≡ k
    → body_over (drop i es) last k m ≡ uses (body_over (drop (i + 1) es) last k m) e.1 (get nat_cmp m e.1)
edge_used [] i e last k m l r s = absurd (omega arith)
edge_used (x ∷ es) zero e last k m l r s =
    subst (λ (z : ℕ × ℕ). cond (z.0 == k) (uses (body_over es last k m) z.1 (get nat_cmp m z.1)) (body_over es last k m) ≡ uses (body_over es last k m) e.1 (get nat_cmp m e.1)) r
    (ap (λ b. cond b (uses (body_over es last k m) e.1 (get nat_cmp m e.1)) (body_over es last k m)) (same_test e.0 k s))
edge_used (x ∷ es) (suc i) e last k m l r s =
    subst (λ n. body_over (drop i es) last k m ≡ uses (body_over (drop n (x ∷ es)) last k m) e.1 (get nat_cmp m e.1)) {x = suc (i + 1)} (omega arith)
    (edge_used es i e last k m (omega arith) r s)

-- and where it is of another key
pub edge_passed :
    (es : List (ℕ × ℕ)) (i : ℕ) (e : ℕ × ℕ) (last : Told) (k : ℕ) (m : List (ℕ × Told))
    → i < length es → e ≡ get_or es i e → (e.0 ≡ k → ⊥)
    → body_over (drop i es) last k m ≡ body_over (drop (i + 1) es) last k m
edge_passed [] i e last k m l r s = absurd (omega arith)
edge_passed (x ∷ es) zero e last k m l r s =
    subst (λ (z : ℕ × ℕ). cond (z.0 == k) (uses (body_over es last k m) z.1 (get nat_cmp m z.1)) (body_over es last k m) ≡ body_over es last k m) r
    (ap (λ b. cond b (uses (body_over es last k m) e.1 (get nat_cmp m e.1)) (body_over es last k m)) (other_test e.0 k s))
edge_passed (x ∷ es) (suc i) e last k m l r s =
    subst (λ n. body_over (drop i es) last k m ≡ body_over (drop n (x ∷ es)) last k m) {x = suc (i + 1)} (omega arith)
    (edge_passed es i e last k m (omega arith) r s)

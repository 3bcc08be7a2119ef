-- The place of the least key of a list.
use Rattle.std.proofs.Common.{◌≡◌, ℕ, zero, suc, ◌+◌, ◌<◌, ◌≤◌, true, false, cond, List, [], ◌∷◌, ◌++◌, length, get_or, take, drop, refl, sym, ◌∙◌, ap, arith}
use Rattle.std.specs.Cmp.{IsTotalOrder}
use Rattle.std.specs.Ordering.{is_lt}
use Rattle.std.specs.declared.cmp.Ordering.{Ordering}
use Rattle.std.specs.declared.cmp.Ordering.TheVariants.{Equal}
use Rattle.std.proofs.lemmas.Cmp.{tied_itself}
use Rattle.def_query.specs.Keys.{AreDistinct}
use Rattle.def_core.specs.Needs.{least, rotated}
use Rattle.def_core.proofs.Lists.{At, at_place}
use Rattle.def_core.proofs.Closing.{rotated_at}
use Rattle.qe_chain.proofs.Kept.{get_any}

drop_next : {X : Type 0} → (xs : List X) (i : ℕ) (d : X) → i < length xs → drop i xs ≡ get_or xs i d ∷ drop (i + 1) xs
drop_next [] i d h = absurd (omega arith)
drop_next (x ∷ xs) zero d h = refl
drop_next (x ∷ xs) (suc i) d h =
    drop_next xs i d (omega arith) ∙ ap (λ n. get_or xs i d ∷ drop n (x ∷ xs)) (let e : suc (i + 1) ≡ suc i + 1 = omega arith in e)

drop_all : {X : Type 0} → (xs : List X) (i : ℕ) → length xs ≤ i → drop i xs ≡ []
drop_all [] zero h = refl
drop_all [] (suc i) h = refl
drop_all (x ∷ xs) zero h = absurd (omega arith)
drop_all (x ∷ xs) (suc i) h = drop_all xs i (omega arith)

module _ {K : Type 0} (cmp : K → K → Ordering) where
  -- the least of all keys is the least of the best so far and the keys from a place on
  pub record IsBest (keys : List K) (best i : ℕ) : Type 0 where
    pub within : best < length keys
    pub same : (x : K) (rest : List K) → keys ≡ x ∷ rest → least cmp (get_or keys best x) (drop i keys) ≡ least cmp x rest

  module _ (total : IsTotalOrder cmp) where
    least_again : (x : K) (rest : List K) → least cmp x (x ∷ rest) ≡ least cmp x rest
    least_again x rest =
        ap (λ b. cond b (least cmp x rest) (least cmp x rest)) {x = is_lt (cmp x x)} {y = is_lt Equal} (ap is_lt (tied_itself total x))

    pub best_begins : (keys : List K) → 0 < length keys → IsBest keys 0 0
    best_begins [] h = absurd (omega arith)
    best_begins (y ∷ ys) h = record {
      within = omega arith;
      same = λ x rest e.
          let f : y ≡ x = cc in
          let g : ys ≡ rest = cc in
          least_again y ys ∙ (ap (λ z. least cmp z ys) f ∙ ap (least cmp x) g);
    }

    pub best_less :
        (keys : List K) (best i : ℕ) (u v : K) → IsBest keys best i → i < length keys → u ≡ get_or keys i u
        → v ≡ get_or keys best v → is_lt (cmp u v) ≡ true → IsBest keys i (i + 1)
    best_less keys best i u v b h e f less = record {
      within = h;
      same = λ x rest s.
          let ux : get_or keys i x ≡ u = get_any keys i x u h ∙ sym e in
          let vx : get_or keys best x ≡ v = get_any keys best x v b.within ∙ sym f in
          let l : least cmp (get_or keys best x) (drop i keys) ≡ least cmp (get_or keys i x) (drop (i + 1) keys) =
          ap (least cmp (get_or keys best x)) (drop_next keys i x h)
          ∙ ap (λ b. cond b (least cmp (get_or keys i x) (drop (i + 1) keys)) (least cmp (get_or keys best x) (drop (i + 1) keys)))
          (ap (λ z. is_lt (cmp z (get_or keys best x))) ux ∙ (ap (λ z. is_lt (cmp u z)) vx ∙ less)) in
          sym l ∙ b.same x rest s;
    }

    pub best_stays :
        (keys : List K) (best i : ℕ) (u v : K) → IsBest keys best i → i < length keys → u ≡ get_or keys i u
        → v ≡ get_or keys best v → is_lt (cmp u v) ≡ false → IsBest keys best (i + 1)
    best_stays keys best i u v b h e f less = record {
      within = b.within;
      same = λ x rest s.
          let ux : get_or keys i x ≡ u = get_any keys i x u h ∙ sym e in
          let vx : get_or keys best x ≡ v = get_any keys best x v b.within ∙ sym f in
          let l : least cmp (get_or keys best x) (drop i keys) ≡ least cmp (get_or keys best x) (drop (i + 1) keys) =
          ap (least cmp (get_or keys best x)) (drop_next keys i x h)
          ∙ ap (λ b. cond b (least cmp (get_or keys i x) (drop (i + 1) keys)) (least cmp (get_or keys best x) (drop (i + 1) keys)))
          (ap (λ z. is_lt (cmp z (get_or keys best x))) ux ∙ (ap (λ z. is_lt (cmp u z)) vx ∙ less)) in
          sym l ∙ b.same x rest s;
    }

    pub best_ends :
        (keys : List K) (best i : ℕ) → IsBest keys best i → length keys ≤ i → (x : K) (rest : List K)
        → keys ≡ x ∷ rest → get_or keys best x ≡ least cmp x rest
    best_ends keys best i b h x rest e =
        ap (least cmp (get_or keys best x)) (sym (drop_all keys i h)) ∙ b.same x rest e

    -- the keys from the least one on, and then those before it, are the rotated keys
    pub rotates :
        (one_key : (x y : K) → cmp x y ≡ Equal → x ≡ y) (keys : List K) (at : ℕ) → AreDistinct keys → at < length keys
        → ((x : K) (rest : List K) → keys ≡ x ∷ rest → get_or keys at x ≡ least cmp x rest)
        → drop at keys ++ take at keys ≡ rotated cmp keys
    rotates one_key [] at d h e = absurd (omega arith)
    rotates one_key (x ∷ rest) at d h e =
        let a : At (x ∷ rest) at x = at_place (x ∷ rest) at x h in
        sym (rotated_at cmp total one_key x rest a.before a.behind at d
        (a.is ∙ ap (λ z. a.before ++ z ∷ a.behind) (e x rest refl)) a.place)

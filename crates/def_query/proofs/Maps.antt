-- Finite maps as lists of pairs.
use Rattle.std.proofs.Common.{◌≡◌, ◌≢◌, ◌⊎◌, inl, inr, true, false, cond, List, [], ◌∷◌, Option, Some, None, refl, sym, ◌∙◌, ap, map}
use Rattle.std.specs.Cmp.{IsTotalOrder}
use Rattle.std.specs.Ordering.{eq_by_cmp, is_eq}
use Rattle.std.specs.declared.cmp.Ordering.{Ordering}
use Rattle.std.specs.declared.cmp.Ordering.TheVariants.{Less, Equal, Greater}
use Rattle.std.proofs.lemmas.Cmp.{tied_itself}
use Rattle.def_query.specs.Keys.{IsIn}
use Rattle.def_query.specs.Map.{get, IsWithin}

-- two keys are one, or the comparison tells them apart
pub data Compared {K : Type 0} (cmp : K → K → Ordering) (x y : K) : Type 0 where
  Same : x ≡ y → eq_by_cmp cmp x y ≡ true → Compared cmp x y
  Apart : x ≢ y → eq_by_cmp cmp x y ≡ false → Compared cmp x y

module _ {K : Type 0} (cmp : K → K → Ordering) (total : IsTotalOrder cmp) (one_key : (x y : K) → cmp x y ≡ Equal → x ≡ y) where
  pub compared : (x y : K) → Compared cmp x y
  compared x y = go (cmp x y) refl
    where
      go : (o : Ordering) → cmp x y ≡ o → Compared cmp x y
      go Less e = Apart (λ s. let t : cmp x x ≡ Less = ap (cmp x) s ∙ e in let u = tied_itself total x in cc) (ap is_eq e)
      go Equal e = Same (one_key x y e) (ap is_eq e)
      go Greater e = Apart (λ s. let t : cmp x x ≡ Greater = ap (cmp x) s ∙ e in let u = tied_itself total x in cc) (ap is_eq e)

  pub decide_in : (x : K) (xs : List K) → IsIn x xs ⊎ (¬ IsIn x xs)
  decide_in x [] = inr (λ h. h)
  decide_in x (y ∷ xs) =
      elim (compared x y) [
        | Same e _ ↦ inl (inl e)
        | Apart apart _ ↦ elim (decide_in x xs) [
          | inl h ↦ inl (inr h)
          | inr not ↦ inr (λ h. elim h [ inl e ↦ apart e | inr k ↦ not k ])
        ]
      ]

  module _ {A : Type 0} where
    pub get_here : (k : K) (a : A) (m : List (K × A)) → get cmp ((k, a) ∷ m) k ≡ Some a
    get_here k a m = ap (λ b. cond b (Some a) (get cmp m k)) (ap is_eq (tied_itself total k))

    pub get_there : (k q : K) (a : A) (m : List (K × A)) → q ≢ k → get cmp ((k, a) ∷ m) q ≡ get cmp m q
    get_there k q a m apart =
        elim (compared q k) [
          | Same e _ ↦ absurd (apart e)
          | Apart _ e ↦ ap (λ b. cond b (Some a) (get cmp m q)) e
        ]

    -- what a map with one more pair has
    pub get_cases : (k q : K) (a b : A) (m : List (K × A)) → get cmp ((k, a) ∷ m) q ≡ Some b → ((q ≡ k) × (a ≡ b)) ⊎ (get cmp m q ≡ Some b)
    get_cases k q a b m h =
        elim (compared q k) [
          | Same e t ↦ inl (e, (let u : get cmp ((k, a) ∷ m) q ≡ Some a = ap (λ v. cond v (Some a) (get cmp m q)) t in let w : Some a ≡ Some b = sym u ∙ h in cc))
          | Apart apart _ ↦ inr (sym (get_there k q a m apart) ∙ h)
        ]

    pub within_cons : (k : K) (a : A) (m : List (K × A)) → get cmp m k ≡ None → IsWithin cmp m ((k, a) ∷ m)
    within_cons k a m lacks q b h =
        elim (compared q k) [
          | Same e _ ↦ absurd (let u : get cmp m k ≡ Some b = ap (get cmp m) (sym e) ∙ h in let v : Some b ≡ None = sym u ∙ lacks in cc)
          | Apart apart _ ↦ get_there k q a m apart ∙ h
        ]

    pub cons_within : (k : K) (a : A) (m n : List (K × A)) → IsWithin cmp m n → get cmp n k ≡ Some a → IsWithin cmp ((k, a) ∷ m) n
    cons_within k a m n w h q b g =
        elim (get_cases k q a b m g) [
          | inl s ↦ ap (get cmp n) s.0 ∙ (h ∙ ap Some s.1)
          | inr g' ↦ w q b g'
        ]

    -- a map has a key or lacks it
    pub has_or_lacks : (m : List (K × A)) (k : K) → ((a : A) × (get cmp m k ≡ Some a)) ⊎ (get cmp m k ≡ None)
    has_or_lacks m k = go (get cmp m k) refl
      where
        go : (o : Option A) → get cmp m k ≡ o → ((a : A) × (get cmp m k ≡ Some a)) ⊎ (get cmp m k ≡ None)
        go (Some a) e = inl (a, e)
        go None e = inr e

    pub key_is_in : (m : List (K × A)) (k : K) (a : A) → get cmp m k ≡ Some a → IsIn k (map (λ (p : K × A). p.0) m)
    key_is_in [] k a h = let h' : None ≡ Some a = h in absurd (cc)
    key_is_in (p ∷ m) k a h =
        elim (get_cases p.0 k p.1 a m h) [
          | inl s ↦ inl s.0
          | inr g ↦ inr (key_is_in m k a g)
        ]

    pub not_both : (m : List (K × A)) (k : K) (a : A) → get cmp m k ≡ Some a → get cmp m k ≡ None → ⊥
    not_both m k a h g = let e : Some a ≡ None = sym h ∙ g in cc

    pub one_value : (m : List (K × A)) (k : K) (a b : A) → get cmp m k ≡ Some a → get cmp m k ≡ Some b → a ≡ b
    one_value m k a b h g = let e : Some a ≡ Some b = sym h ∙ g in cc

-- Following current needs from place to place.
use Rattle.std.proofs.Common.{◌≡◌, ◌≢◌, ℕ, suc, ◌+◌, ◌-◌, ◌<◌, ◌≤◌, true, false, List, [], ◌∷◌, ◌++◌, length, get_or, Option, Some, None, refl, sym, ◌∙◌, ap, subst, arith}
use Rattle.std.specs.Prelude.{option_map, is_some, IsSome}
use Rattle.std.specs.Cmp.{IsTotalOrder}
use Rattle.std.specs.Ordering.{is_eq}
use Rattle.std.specs.declared.cmp.Ordering.{Ordering}
use Rattle.std.proofs.lemmas.Cmp.{tied_itself}
use Rattle.def_query.specs.Keys.{IsIn}
use Rattle.def_core.specs.State.{Caller, idle, claimed}
use Rattle.def_core.specs.Needs.{owner, need, path}
use Rattle.def_core.proofs.Lists.{append_more, length_more}
use Rattle.def_core.proofs.Chains.{unowned, need_free}
use Rattle.def_core.proofs.Paths.{path_end, path_step, path_stuck, path_exact}
use Rattle.qe_chain.specs.declared.place.Place.{Place}
use Rattle.qe_chain.specs.Chains.{key_at, IsWithin, IsPlace, IsApart, GoesOn, awaited_count, open_count}
use Rattle.qe_chain.proofs.Kept.{get_any, cost}
use Rattle.std.proofs.lemmas.List.Sums.{sum_by-cons}
use Rattle.qe_chain.proofs.Places.{tests_equal}

module _ {K : Type 0} where
  claimed_open : (callers : List (Caller K)) → length (claimed callers) ≤ open_count callers
  claimed_open [] = omega arith
  claimed_open (c ∷ callers) =
      let e = length_more c.chain (claimed callers) in
      let h = claimed_open callers in
      let s : open_count (c ∷ callers) ≡ (length c.chain + awaited_count c.awaits) + open_count callers = sum_by-cons cost c callers in
      let l : length (claimed (c ∷ callers)) ≡ length (c.chain ++ claimed callers) = refl in
      omega arith

  pub some_map : (f : List K → List K) (o : Option (List K)) → is_some (option_map f o) ≡ is_some o
  some_map f None = refl
  some_map f (Some p) = refl

  map_twice :
      (f g h : List K → List K) → ((q : List K) → f (g q) ≡ h q) → (o : Option (List K))
      → option_map f (option_map g o) ≡ option_map h o
  map_twice f g h e None = refl
  map_twice f g h e (Some q) = ap Some (e q)

  map_nothing : (o : Option (List K)) → option_map (λ q. [] ++ q) o ≡ o
  map_nothing None = refl
  map_nothing (Some q) = refl

  pub one_place : (callers : List (Caller K)) (p : Place) (k z : K) → IsPlace callers k p → IsPlace callers z p → k ≡ z
  one_place callers p k z h g = sym (h.key k) ∙ g.key k

  some_place :
      (callers : List (Caller K)) (p : Place) (d : K) → IsWithin callers p → IsPlace callers (key_at callers p d) p
  some_place callers p d w = record {
    within = w;
    key = λ e. get_any (get_or callers p.caller idle).chain p.index e d w.index;
  }

module _ {K : Type 0} (cmp : K → K → Ordering) (callers : List (Caller K)) (n : ℕ) (t : K) where
  -- the way from the key so far, after i steps, has come to this place
  pub record Follows (key : K) (i : ℕ) (p : Place) : Type 0 where
    pub within : IsWithin callers p
    pub same : (k : K) → IsPlace callers k p → is_some (path cmp callers n key t) ≡ is_some (path cmp callers (n - i) k t)

  -- the keys of the way so far
  pub record Collects (key : K) (i : ℕ) (p : Place) (keys : List K) : Type 0 where
    pub within : IsWithin callers p
    pub same :
        (k : K) → IsPlace callers k p
        → path cmp callers n key t ≡ option_map (λ q. keys ++ q) (path cmp callers (n - i) k t)

module _ {K : Type 0} (cmp : K → K → Ordering) (total : IsTotalOrder cmp) (callers : List (Caller K)) (n : ℕ)
    (apart : IsApart cmp callers n)
    (t : K) (c : IsIn t (claimed callers)) where
  pub same_key : (k : K) → is_eq (cmp k t) ≡ true → k ≡ t
  same_key k e = apart.one_key k t (tests_equal (cmp k t) e)

  pub other_key : (k : K) → is_eq (cmp k t) ≡ false → k ≢ t
  other_key k e s =
      let f : is_eq (cmp k t) ≡ true = ap (λ z. is_eq (cmp k z)) (sym s) ∙ ap is_eq (tied_itself total k) in
      let g : true ≡ false = sym f ∙ e in
      cc

  pub enough : (k : K) → path cmp callers n k t ≡ path cmp callers (length (claimed callers)) k t
  enough k =
      path_exact cmp total apart.one_key callers n k t c
      (let h = claimed_open callers in let e = apart.counted in omega arith)

  free_stuck : (m : ℕ) (k : K) → owner cmp callers k ≡ None → path cmp callers m k t ≡ None
  free_stuck m k e =
      let u : ¬ IsIn k (claimed callers) = unowned cmp total apart.one_key callers k apart.distinct e in
      path_stuck cmp total apart.one_key callers m k t (λ s. u (subst (λ z. IsIn z (claimed callers)) (sym s) c)) (need_free cmp total apart.one_key callers k u)

  -- a key that nobody has claimed leads nowhere
  pub free_nowhere : (k : K) → owner cmp callers k ≡ None → path cmp callers (length (claimed callers)) k t ≡ None
  free_nowhere k e = free_stuck (length (claimed callers)) k e

  pub free_false :
      (k : K) → owner cmp callers k ≡ None → false ≡ is_some (path cmp callers (length (claimed callers)) k t)
  free_false k e = sym (ap is_some (free_nowhere k e))

  -- one step from a key that is not the last one
  stuck_at :
      (m : ℕ) (p : Place) (k : K) → IsPlace callers k p → k ≢ t → GoesOn cmp callers p None
      → path cmp callers (suc m) k t ≡ None
  stuck_at m p k is a g = go (need cmp callers k) refl
    where
      go : (o : Option K) → need cmp callers k ≡ o → path cmp callers (suc m) k t ≡ None
      go None e = path_stuck cmp total apart.one_key callers (suc m) k t a e
      go (Some y) e =
          path_step cmp total apart.one_key callers m k t y a e
          ∙ ap (option_map (λ q. k ∷ q)) (free_stuck m y (g k is y e))

  minus_one : (i : ℕ) → i < n → n - i ≡ suc (n - (i + 1))
  minus_one i h = omega arith

  pub begins : (key : K) (p : Place) → IsPlace callers key p → Follows cmp callers n t key 0 p
  begins key p h = record {
    within = h.within;
    same = λ k g.
        let e : n ≡ n - 0 = omega arith in
        ap (λ z. is_some (path cmp callers n z t)) (one_place callers p key k h g) ∙ ap (λ m. is_some (path cmp callers m k t)) e;
  }

  pub arrives :
      (key : K) (i : ℕ) (p : Place) (k : K) → Follows cmp callers n t key i p → i < n → IsPlace callers k p → k ≡ t
      → true ≡ is_some (path cmp callers (length (claimed callers)) key t)
  arrives key i p k f h is s =
      let e : path cmp callers (n - i) k t ≡ Some (k ∷ []) =
      ap (λ m. path cmp callers m k t) (minus_one i h) ∙ path_end cmp total apart.one_key callers (n - (i + 1)) k t s in
      sym (ap is_some (sym (enough key)) ∙ (f.same k is ∙ ap is_some e))

  pub stops :
      (key : K) (i : ℕ) (p : Place) (k : K) → Follows cmp callers n t key i p → i < n → IsPlace callers k p → k ≢ t
      → GoesOn cmp callers p None → false ≡ is_some (path cmp callers (length (claimed callers)) key t)
  stops key i p k f h is a g =
      let e : path cmp callers (n - i) k t ≡ None =
      ap (λ m. path cmp callers m k t) (minus_one i h) ∙ stuck_at (n - (i + 1)) p k is a g in
      sym (ap is_some (sym (enough key)) ∙ (f.same k is ∙ ap is_some e))

  pub goes :
      (key : K) (i : ℕ) (p q : Place) (k : K) → Follows cmp callers n t key i p → i < n → IsPlace callers k p → k ≢ t
      → GoesOn cmp callers p (Some q) → Follows cmp callers n t key (i + 1) q
  goes key i p q k f h is a g =
      let s = g k is in
      record {
        within = s.2.within;
        same = λ z at.
            let e : path cmp callers (n - i) k t ≡ option_map (λ q. k ∷ q) (path cmp callers (n - (i + 1)) s.0 t) =
            ap (λ m. path cmp callers m k t) (minus_one i h) ∙ path_step cmp total apart.one_key callers (n - (i + 1)) k t s.0 a s.1 in
            f.same k is
            ∙ (ap is_some e
            ∙ (some_map (λ q. k ∷ q) (path cmp callers (n - (i + 1)) s.0 t)
            ∙ ap (λ w. is_some (path cmp callers (n - (i + 1)) w t)) (one_place callers q s.0 z s.2 at)));
      }

  pub ends :
      (key : K) (i : ℕ) (p : Place) → Follows cmp callers n t key i p → n ≤ i
      → false ≡ is_some (path cmp callers (length (claimed callers)) key t)
  ends key i p f h =
      let e : n - i ≡ 0 = omega arith in
      sym (ap is_some (sym (enough key)) ∙ (f.same (key_at callers p key) (some_place callers p key f.within) ∙ ap (λ m. is_some (path cmp callers m (key_at callers p key) t)) e))

  pub collects_none :
      (key : K) (p : Place) (keys : List K) → keys ≡ [] → IsPlace callers key p
      → Collects cmp callers n t key 0 p keys
  collects_none key p keys none h = record {
    within = h.within;
    same = λ k g.
        let e : n ≡ n - 0 = omega arith in
        ap (λ z. path cmp callers n z t) (one_place callers p key k h g)
        ∙ (ap (λ m. path cmp callers m k t) e
        ∙ (sym (map_nothing (path cmp callers (n - 0) k t)) ∙ ap (λ l. option_map (λ q. l ++ q) (path cmp callers (n - 0) k t)) (sym none)));
  }

  pub collected :
      (key : K) (i : ℕ) (p : Place) (k : K) (keys all : List K) → Collects cmp callers n t key i p keys → i < n
      → IsPlace callers k p → k ≡ t → all ≡ keys ++ k ∷ []
      → path cmp callers (length (claimed callers)) key t ≡ Some all
  collected key i p k keys all f h is s pushed =
      let e : path cmp callers (n - i) k t ≡ Some (k ∷ []) =
      ap (λ m. path cmp callers m k t) (minus_one i h) ∙ path_end cmp total apart.one_key callers (n - (i + 1)) k t s in
      sym (enough key) ∙ (f.same k is ∙ (ap (option_map (λ q. keys ++ q)) e ∙ ap Some (sym pushed)))

  pub collects_more :
      (key : K) (i : ℕ) (p q : Place) (k : K) (keys all : List K) → Collects cmp callers n t key i p keys → i < n
      → IsPlace callers k p → k ≢ t → all ≡ keys ++ k ∷ [] → GoesOn cmp callers p (Some q)
      → Collects cmp callers n t key (i + 1) q all
  collects_more key i p q k keys all f h is a pushed g =
      let s = g k is in
      record {
        within = s.2.within;
        same = λ z at.
            let e : path cmp callers (n - i) k t ≡ option_map (λ q. k ∷ q) (path cmp callers (n - (i + 1)) s.0 t) =
            ap (λ m. path cmp callers m k t) (minus_one i h) ∙ path_step cmp total apart.one_key callers (n - (i + 1)) k t s.0 a s.1 in
            f.same k is
            ∙ (ap (option_map (λ q. keys ++ q)) e
            ∙ (map_twice (λ q. keys ++ q) (λ q. k ∷ q) (λ q. all ++ q) (λ q. sym (append_more keys (k ∷ []) q) ∙ ap (λ l. l ++ q) (sym pushed)) (path cmp callers (n - (i + 1)) s.0 t)
            ∙ ap (λ w. option_map (λ q. all ++ q) (path cmp callers (n - (i + 1)) w t)) (one_place callers q s.0 z s.2 at)));
      }

  not_reached : (key : K) → path cmp callers n key t ≡ None → ¬ IsSome (path cmp callers (length (claimed callers)) key t)
  not_reached key e h =
      let f : is_some (path cmp callers (length (claimed callers)) key t) ≡ false = ap is_some (sym (enough key) ∙ e) in
      let g : false ≡ true = sym f ∙ h in
      cc

  pub cannot_begin :
      (key : K) → owner cmp callers key ≡ None → ¬ IsSome (path cmp callers (length (claimed callers)) key t)
  cannot_begin key e h = let f : false ≡ true = free_false key e ∙ h in cc

  pub cannot_stop :
      (key : K) (i : ℕ) (p : Place) (k : K) (keys : List K) → Collects cmp callers n t key i p keys → i < n
      → IsPlace callers k p → k ≢ t → GoesOn cmp callers p None
      → ¬ IsSome (path cmp callers (length (claimed callers)) key t)
  cannot_stop key i p k keys f h is a g =
      let e : path cmp callers (n - i) k t ≡ None =
      ap (λ m. path cmp callers m k t) (minus_one i h) ∙ stuck_at (n - (i + 1)) p k is a g in
      not_reached key (f.same k is ∙ ap (option_map (λ q. keys ++ q)) e)

  pub cannot_end :
      (key : K) (i : ℕ) (p : Place) (keys : List K) → Collects cmp callers n t key i p keys → n ≤ i
      → ¬ IsSome (path cmp callers (length (claimed callers)) key t)
  cannot_end key i p keys f h =
      let e : n - i ≡ 0 = omega arith in
      not_reached key (f.same (key_at callers p key) (some_place callers p key f.within) ∙ ap (λ m. option_map (λ q. keys ++ q) (path cmp callers m (key_at callers p key) t)) e)

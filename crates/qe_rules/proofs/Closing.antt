-- The cycle that closes where the last key of a chain needs one of the chain's keys.
use Rattle.std.proofs.Common.{◌≡◌, ◌≢◌, ℕ, suc, ◌<◌, true, false, List, [], ◌∷◌, ◌++◌, length, take, drop, get_or, refl, sym, ◌∙◌, ap, subst, inl, inr, ◌⊎◌}
use Rattle.std.specs.Cmp.{IsTotalOrder}
use Rattle.std.specs.Ordering.{is_eq, is_gt}
use Rattle.std.specs.declared.cmp.Ordering.{Ordering}
use Rattle.std.specs.declared.cmp.Ordering.TheVariants.{Less, Equal, Greater}
use Rattle.def_query.specs.Keys.{IsIn, AreDistinct, IsWalk, IsPath}
use Rattle.def_query.specs.Meaning.{Meaning}
use Rattle.def_query.specs.Settles.{IsSettled, Depends}
use Rattle.def_query.specs.Cycle.{IsCycleOf}
use Rattle.def_query.specs.Lawful.{IsLawful}
use Rattle.def_query.proofs.Walks.{in_append_left, in_append_right, distinct_from, path_closed, leads_step}
use Rattle.def_query.proofs.Runs.{loop_unsettled}
use Rattle.def_query.proofs.Least.{LeastOf}
use Rattle.def_query.proofs.Loops.{loop_cycle}
use Rattle.qe_rules.specs.Worker.{IsTurned}
use Rattle.qe_rules.proofs.Lists.{split_at, drop_at, index_of, all_in}

tests_equal : (o : Ordering) → is_eq o ≡ true → o ≡ Equal
tests_equal Less e = let e' : false ≡ true = e in absurd (cc)
tests_equal Equal e = refl
tests_equal Greater e = let e' : false ≡ true = e in absurd (cc)

module _ {K : Type 0} (cmp : K → K → Ordering) (total : IsTotalOrder cmp) (one_key : (x y : K) → cmp x y ≡ Equal → x ≡ y) where
  -- a key that is compared as equal is this key
  pub key_at : (keys : List K) (key : K) (at : ℕ) → ((d : K) → is_eq (cmp (get_or keys at d) key) ≡ true) → (d : K) → get_or keys at d ≡ key
  key_at keys key at h d = one_key (get_or keys at d) key (tests_equal (cmp (get_or keys at d) key) (h d))

  -- a list whose keys are all compared as different does not have the key
  pub lacks_key :
      (keys : List K) (key : K) → cmp key key ≡ Equal
      → ((i : ℕ) (d : K) → i < length keys → is_eq (cmp (get_or keys i d) key) ≡ false) → ¬ IsIn key keys
  lacks_key keys key tied h isin =
      let i = index_of key keys isin in
      let e : is_eq (cmp (get_or keys i.at key) key) ≡ false = h i.at key i.within in
      let f : is_eq (cmp (get_or keys i.at key) key) ≡ true = ap (λ k. is_eq (cmp k key)) (i.reads key) ∙ ap is_eq tied in
      let g : true ≡ false = sym f ∙ e in
      cc

  less_or_same : (x y : K) → x ≢ y → is_gt (cmp x y) ≡ false → cmp x y ≡ Less
  less_or_same x y apart h = go (cmp x y) refl
    where
      go : (o : Ordering) → cmp x y ≡ o → cmp x y ≡ Less
      go Less e = e
      go Equal e = absurd (apart (one_key x y e))
      go Greater e = let f : true ≡ false = ap is_gt (sym e) ∙ h in absurd (cc)

  distinct_around :
      (before : List K) (key : K) (after : List K) → AreDistinct (before ++ key ∷ after)
      → (y : K) → IsIn y before ⊎ IsIn y after → key ≢ y
  distinct_around [] key after d y (inl h) = absurd h
  distinct_around [] key after d y (inr h) = λ e. d.0 (subst (λ z. IsIn z after) (sym e) h)
  distinct_around (b ∷ before) key after d y (inl (inl e)) =
      λ f. d.0 (in_append_right b before (key ∷ after) (inl (sym e ∙ sym f)))
  distinct_around (b ∷ before) key after d y (inl (inr h)) = distinct_around before key after d.1 y (inl h)
  distinct_around (b ∷ before) key after d y (inr h) = distinct_around before key after d.1 y (inr h)

  -- the key at which turned keys begin is the least of them
  least_of_turned :
      (keys : List K) (d : K) → AreDistinct keys → (c : List K) (t : IsTurned cmp keys c)
      → LeastOf cmp total one_key keys
  least_of_turned keys d distinct c t = record {
    before = take t.at keys;
    key = get_or keys t.at d;
    after = drop (suc t.at) keys;
    is = split;
    less_before = all_in (λ y. cmp (get_or keys t.at d) y ≡ Less) (take t.at keys) (λ y i.
        less_or_same (get_or keys t.at d) y (apart y (inl i))
        (least y (subst (IsIn y) (sym split) (in_append_left y (take t.at keys) (get_or keys t.at d ∷ drop (suc t.at) keys) i))));
    less_after = all_in (λ y. cmp (get_or keys t.at d) y ≡ Less) (drop (suc t.at) keys) (λ y i.
        less_or_same (get_or keys t.at d) y (apart y (inr i))
        (least y (subst (IsIn y) (sym split) (in_append_right y (take t.at keys) (get_or keys t.at d ∷ drop (suc t.at) keys) (inr i)))));
  }
    where
      split : keys ≡ take t.at keys ++ get_or keys t.at d ∷ drop (suc t.at) keys
      split = split_at keys t.at d t.within

      apart : (y : K) → IsIn y (take t.at keys) ⊎ IsIn y (drop (suc t.at) keys) → get_or keys t.at d ≢ y
      apart = distinct_around (take t.at keys) (get_or keys t.at d) (drop (suc t.at) keys) (subst AreDistinct (split_at keys t.at d t.within) distinct)

      least : (y : K) → IsIn y keys → is_gt (cmp (get_or keys t.at d) y) ≡ false
      least y i =
          let j = index_of y keys i in
          subst (λ z. is_gt (cmp (get_or keys t.at d) z) ≡ false) (j.reads d) (t.least j.at d j.within)

module _ {K A : Type 0} (cmp : K → K → Ordering) (total : IsTotalOrder cmp) (r : Meaning K A) (lawful : IsLawful cmp r) where
  -- the walk from the key at a place of a path back to it
  pub closes :
      (chain before : List K) (top need : K) (at : ℕ)
      → chain ≡ before ++ top ∷ [] → IsPath (Depends cmp r) chain → Depends cmp r top need
      → at < length chain → ((d : K) → get_or chain at d ≡ need)
      → IsWalk (Depends cmp r) need (drop (suc at) chain ++ need ∷ [])
  closes chain before top need at was path d within here =
      path_closed (Depends cmp r) before top (take at chain) need (drop (suc at) chain)
      (sym was ∙ (split_at chain at top within ∙ ap (λ k. take at chain ++ k ∷ drop (suc at) chain) (here top)))
      (subst (IsPath (Depends cmp r)) was path) d

  pub need_unsettled :
      (chain before : List K) (top need : K) (at : ℕ)
      → chain ≡ before ++ top ∷ [] → IsPath (Depends cmp r) chain → Depends cmp r top need
      → at < length chain → ((d : K) → get_or chain at d ≡ need)
      → ¬ IsSettled cmp r need
  need_unsettled chain before top need at was path d within here =
      loop_unsettled cmp total r lawful need (drop (suc at) chain, closes chain before top need at was path d within here)

  -- the keys from that place on, turned to their least key, are the cycle of the last key
  pub turned_cycle :
      (chain before : List K) (top need : K) (at : ℕ)
      → chain ≡ before ++ top ∷ [] → IsPath (Depends cmp r) chain → AreDistinct chain → Depends cmp r top need
      → at < length chain → ((d : K) → get_or chain at d ≡ need)
      → (c : List K) → IsTurned cmp (drop at chain) c → IsCycleOf cmp r top c
  unfolding least_of_turned
  turned_cycle chain before top need at was path distinct d within here c t =
      let keys : drop at chain ≡ need ∷ drop (suc at) chain = drop_at chain at top within ∙ ap (λ k. k ∷ drop (suc at) chain) (here top) in
      let all : chain ≡ take at chain ++ need ∷ drop (suc at) chain = split_at chain at top within ∙ ap (λ k. take at chain ++ k ∷ drop (suc at) chain) (here top) in
      let t' : IsTurned cmp (need ∷ drop (suc at) chain) c = subst (λ l. IsTurned cmp l c) keys t in
      let distinct' : AreDistinct (need ∷ drop (suc at) chain) =
      distinct_from (take at chain) (need ∷ drop (suc at) chain) (subst AreDistinct all distinct) in
      let l = least_of_turned cmp total lawful.one_key (need ∷ drop (suc at) chain) top distinct' c t' in
      let cycle = loop_cycle cmp total r lawful top need (drop (suc at) chain)
      (inr (leads_step (Depends cmp r) top need d))
      (closes chain before top need at was path d within here) l in
      let same : c ≡ l.key ∷ (l.after ++ l.before) =
      t'.is ∙ ap (λ k. k ++ take t'.at (need ∷ drop (suc at) chain)) (drop_at (need ∷ drop (suc at) chain) t'.at top t'.within) in
      subst (IsCycleOf cmp r top) (sym same) cycle

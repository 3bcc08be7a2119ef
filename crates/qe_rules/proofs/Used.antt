-- Frames that keep the answers that they have used.
use Rattle.std.proofs.Common.{◌≡◌, ◌≢◌, List, [], ◌∷◌, ◌++◌, length, Option, Some, None, map, refl, sym, ◌∙◌, ap, subst, inl, inr, arith, ◌+◌, ◌-◌, ◌<◌}
use Rattle.std.specs.Cmp.{IsTotalOrder}
use Rattle.std.specs.List.{AllByRecursion}
use Rattle.std.specs.declared.cmp.Ordering.{Ordering}
use Rattle.def_query.specs.Answer.{IsCorrect}
use Rattle.def_query.specs.Keys.{IsIn, AreDistinct}
use Rattle.def_query.specs.Lawful.{IsLawful}
use Rattle.def_query.specs.Map.{get, IsWithin}
use Rattle.def_query.specs.Meaning.{Meaning}
use Rattle.def_query.specs.declared.step.Step.{Step}
use Rattle.def_query.specs.declared.step.Step.TheVariants.{Needs, Done}
use Rattle.def_query.proofs.Maps.{Same, Apart, compared, get_cases, get_here, get_there, has_or_lacks, one_value, not_both, within_cons, key_is_in}
use Rattle.def_query.proofs.Correct.{correct_cons}
use Rattle.def_query.proofs.Runs.{lacks_cons}
use Rattle.def_query.proofs.Walks.{Without, take_out, in_append_cases, in_append_left, in_append_right, distinct_push}
use Rattle.qe_rules.specs.Frame.{Frame, IsRight, IsWorked}
use Rattle.qe_rules.specs.Known.{IsSameMap}
use Rattle.qe_rules.specs.Anew.{pair_of, pairs_in, AreKeysOf}
use Rattle.qe_rules.proofs.Stacks.{get_first, get_second, from_within, same_body, all_snoc}

module _ {K A : Type 0} (cmp : K → K → Ordering) (total : IsTotalOrder cmp) (r : Meaning K A) (lawful : IsLawful cmp r) where
  -- a map that has the same answers of these keys
  same_pairs :
      (m n : List (K × A)) (keys : List K) → ((k : K) → IsIn k keys → get cmp n k ≡ get cmp m k)
      → pairs_in cmp n keys ≡ pairs_in cmp m keys
  same_pairs m n [] f = refl
  same_pairs m n (k ∷ keys) f =
      ap (λ o. pair_of cmp k o ++ pairs_in cmp n keys) (f k (inl refl))
      ∙ ap (λ l. pair_of cmp k (get cmp m k) ++ l) (same_pairs m n keys (λ q i. f q (inr i)))

  append_one : (xs ys : List (K × A)) (x : K × A) → xs ++ (ys ++ x ∷ []) ≡ (xs ++ ys) ++ x ∷ []
  append_one [] ys x = refl
  append_one (z ∷ xs) ys x = ap (λ l. z ∷ l) (append_one xs ys x)

  pairs_snoc : (m : List (K × A)) (keys : List K) (k : K) (a : A) → get cmp m k ≡ Some a
      → pairs_in cmp m (keys ++ k ∷ []) ≡ pairs_in cmp m keys ++ (k, a) ∷ []
  pairs_snoc m [] k a h = ap (λ o. pair_of cmp k o ++ []) h
  pairs_snoc m (q ∷ keys) k a h = ap (λ l. pair_of cmp q (get cmp m q) ++ l) (pairs_snoc m keys k a h) ∙ grouped (get cmp m q)
    where
      grouped : (o : Option A) → pair_of cmp q o ++ (pairs_in cmp m keys ++ (k, a) ∷ []) ≡ (pair_of cmp q o ++ pairs_in cmp m keys) ++ (k, a) ∷ []
      grouped None = refl
      grouped (Some b) = refl

  -- each pair is of the map, and of these keys
  in_map : (m : List (K × A)) (keys : List K) → IsWithin cmp (pairs_in cmp m keys) m
  in_map m [] q b h = let h' : None ≡ Some b = h in absurd (cc)
  in_map m (k ∷ keys) q b h = go (get cmp m k) (in_map m keys q b) refl h
    where
      go :
          (o : Option A) → (get cmp (pairs_in cmp m keys) q ≡ Some b → get cmp m q ≡ Some b)
          → get cmp m k ≡ o → get cmp (pair_of cmp k o ++ pairs_in cmp m keys) q ≡ Some b → get cmp m q ≡ Some b
      go None f e g = f g
      go (Some a) f e g =
          elim (get_cases cmp total lawful.one_key k q a b (pairs_in cmp m keys) g) [
            | inl s ↦ ap (get cmp m) s.0 ∙ (e ∙ ap Some s.1)
            | inr t ↦ f t
          ]

  has_pair : (m : List (K × A)) (keys : List K) (q : K) (b : A) → IsIn q keys → get cmp m q ≡ Some b → get cmp (pairs_in cmp m keys) q ≡ Some b
  has_pair m [] q b i h = absurd i
  has_pair m (k ∷ keys) q b i h =
      go (get cmp m k) (λ apart. elim i [ inl e ↦ absurd (apart e) | inr j ↦ has_pair m keys q b j h ]) refl
    where
      go :
          (o : Option A) → (q ≢ k → get cmp (pairs_in cmp m keys) q ≡ Some b) → get cmp m k ≡ o
          → get cmp (pair_of cmp k o ++ pairs_in cmp m keys) q ≡ Some b
      go None tail e = tail (λ s. let f : Some b ≡ None = sym h ∙ (ap (get cmp m) s ∙ e) in cc)
      go (Some a) tail e =
          elim (compared cmp total lawful.one_key q k) [
            | Same s _ ↦
                ap (get cmp ((k, a) ∷ pairs_in cmp m keys)) s
                ∙ (get_here cmp total lawful.one_key k a (pairs_in cmp m keys) ∙ (sym e ∙ (ap (get cmp m) (sym s) ∙ h)))
            | Apart apart _ ↦ get_there cmp total lawful.one_key k q a (pairs_in cmp m keys) apart ∙ tail apart
          ]

  map_within : (m : List (K × A)) (keys : List K) → AreKeysOf cmp m keys → IsWithin cmp m (pairs_in cmp m keys)
  map_within m keys all q b h = has_pair m keys q b (all.all q b h) h

  -- one more answer is used
  one_more :
      (m n : List (K × A)) (keys : List K) (y : K) (a : A) → AreKeysOf cmp m keys → get cmp m y ≡ None → IsSameMap cmp n ((y, a) ∷ m)
      → AreKeysOf cmp n (keys ++ y ∷ []) × (pairs_in cmp n (keys ++ y ∷ []) ≡ pairs_in cmp m keys ++ (y, a) ∷ [])
  one_more m n keys y a all lacks same = (
    record {
      distinct = distinct_push keys y all.distinct fresh;
      all = λ k b h. elim (get_cases cmp total lawful.one_key y k a b m (sym (same k) ∙ h)) [
        | inl s ↦ in_append_right k keys (y ∷ []) (inl s.0)
        | inr g ↦ in_append_left k keys (y ∷ []) (all.all k b g)
      ];
      only = λ k i. elim (in_append_cases k keys (y ∷ []) i) [
        | inl j ↦ (let f = all.only k j in (f.0, same k ∙ within_cons cmp total lawful.one_key y a m lacks k f.0 f.1))
        | inr j ↦ elim j [
          | inl e ↦ (a, ap (get cmp n) e ∙ new)
          | inr z ↦ absurd z
        ]
      ];
    },
    pairs_snoc n keys y a new
        ∙ ap (λ l. l ++ (y, a) ∷ []) (same_pairs m n keys (λ k i. same k ∙ get_there cmp total lawful.one_key y k a m (λ e. fresh (subst (λ z. IsIn z keys) e i)))),
  )
    where
      fresh : ¬ IsIn y keys
      fresh i = let f = all.only y i in not_both cmp total lawful.one_key m y f.0 f.1 lacks

      new : get cmp n y ≡ Some a
      new = same y ∙ get_here cmp total lawful.one_key y a m

  -- the keys of the pairs
  keys_in : (m : List (K × A)) (keys : List K) (q : K) → IsIn q (map (λ (p : K × A). p.0) (pairs_in cmp m keys)) → IsIn q keys
  keys_in m [] q i = absurd i
  keys_in m (k ∷ keys) q i = go (get cmp m k) (keys_in m keys q) i
    where
      go :
          (o : Option A) → (IsIn q (map (λ (p : K × A). p.0) (pairs_in cmp m keys)) → IsIn q keys)
          → IsIn q (map (λ (p : K × A). p.0) (pair_of cmp k o ++ pairs_in cmp m keys)) → IsIn q (k ∷ keys)
      go None f j = inr (f j)
      go (Some a) f (inl e) = inl e
      go (Some a) f (inr j) = inr (f j)

  pub distinct_pairs : (m : List (K × A)) (keys : List K) → AreDistinct keys → AreDistinct (map (λ (p : K × A). p.0) (pairs_in cmp m keys))
  distinct_pairs m [] d = tt
  distinct_pairs m (k ∷ keys) d = go (get cmp m k) (distinct_pairs m keys d.1)
    where
      go :
          (o : Option A) → AreDistinct (map (λ (p : K × A). p.0) (pairs_in cmp m keys))
          → AreDistinct (map (λ (p : K × A). p.0) (pair_of cmp k o ++ pairs_in cmp m keys))
      go None f = f
      go (Some a) f = ((λ i. d.0 (keys_in m keys k i)), f)

  nothing_after : (xs : List (K × A)) → xs ++ [] ≡ xs
  nothing_after [] = refl
  nothing_after (x ∷ xs) = ap (λ l. x ∷ l) (nothing_after xs)

  keys_count : (m : List (K × A)) → length (map (λ (p : K × A). p.0) m) ≡ length m
  keys_count [] = refl
  keys_count (p ∷ m) = let e = keys_count m in omega arith

  -- a body that is worked anew: what it has used since it was resumed, and the known keys that it has not
  pub record IsGoing (known used0 : List (K × A)) (order0 : List K) (used : List (K × A)) (order : List K) : Type 0 where
    pub correct : IsCorrect cmp r used
    pub keys : AreKeysOf cmp used order
    pub more : List (K × A)
    pub read : pairs_in cmp used order ≡ pairs_in cmp used0 order0 ++ more
    pub from_known : AllByRecursion (λ (p : K × A). get cmp known p.0 ≡ Some p.1) more
    pub rest : List K
    pub left : (q : K) (a : A) → get cmp known q ≡ Some a → get cmp used q ≡ None → IsIn q rest
    pub count : length rest + length used ≡ length known + length used0

  pub going :
      (known used0 : List (K × A)) (order0 : List K) → IsCorrect cmp r used0 → AreKeysOf cmp used0 order0
      → IsGoing known used0 order0 used0 order0
  going known used0 order0 correct keys = record {
    correct = correct;
    keys = keys;
    more = [];
    read = sym (nothing_after (pairs_in cmp used0 order0));
    from_known = tt;
    rest = map (λ (p : K × A). p.0) known;
    left = λ q a h l. key_is_in cmp total lawful.one_key known q a h;
    count = (let e = keys_count known in omega arith);
  }

  module _ (known used0 : List (K × A)) (order0 : List K) (used : List (K × A)) (order : List K)
      (g : IsGoing known used0 order0 used order) (key : K) where
    pub uses :
        (y : K) (a : A) (next : List (K × A)) (after : List K)
        → r.body key used ≡ Needs y → IsCorrect cmp r known → get cmp known y ≡ Some a
        → IsSameMap cmp next ((y, a) ∷ used) → length next ≡ length used + 1 → after ≡ order ++ y ∷ []
        → IsGoing known used0 order0 next after
    uses y a next after needs right has same one is =
        let lacks = lawful.needs_lacking key used y needs in
        let both = one_more used next order y a g.keys lacks same in
        let grown = correct_cons cmp total r lawful used y a g.correct (right y a has) in
        let w : Without y g.rest = take_out y g.rest (g.left y a has lacks) in
        record {
          correct = λ k b h. grown k b (sym (same k) ∙ h);
          keys = subst (AreKeysOf cmp next) (sym is) both.0;
          more = g.more ++ (y, a) ∷ [];
          read =
              ap (pairs_in cmp next) is
              ∙ (both.1 ∙ (ap (λ l. l ++ (y, a) ∷ []) g.read ∙ sym (append_one (pairs_in cmp used0 order0) g.more (y, a))));
          from_known = all_snoc (λ (p : K × A). get cmp known p.0 ≡ Some p.1) g.more (y, a) g.from_known has;
          rest = w.rest;
          left = λ q b h l.
              let f = lacks_cons cmp total r lawful y q a used (sym (same q) ∙ l) in
              w.keeps q f.0 (g.left q b h f.1);
          count = (let s = w.shorter in let c = g.count in omega (arith, s, c, one));
        }

    pub smaller :
        (y : K) (a : A) (next : List (K × A)) → r.body key used ≡ Needs y → get cmp known y ≡ Some a
        → length next ≡ length used + 1
        → length known + length used0 - length next < length known + length used0 - length used
    smaller y a next needs has one =
        let w : Without y g.rest = take_out y g.rest (g.left y a has (lawful.needs_lacking key used y needs)) in
        let s = w.shorter in
        let c = g.count in
        omega (arith, s, c, one)

    -- the answers that it has used now are used already, or known
    within : IsWithin cmp used (pairs_in cmp used0 order0 ++ known)
    within q b h =
        let here : get cmp (pairs_in cmp used0 order0 ++ g.more) q ≡ Some b =
        subst (λ l. get cmp l q ≡ Some b) g.read (map_within used order g.keys q b h) in
        elim (has_or_lacks cmp total lawful.one_key (pairs_in cmp used0 order0) q) [
          | inl s ↦
              get_first cmp total r lawful (pairs_in cmp used0 order0) known q s.0 s.1
              ∙ ap Some (one_value cmp total lawful.one_key (pairs_in cmp used0 order0 ++ g.more) q s.0 b (get_first cmp total r lawful (pairs_in cmp used0 order0) g.more q s.0 s.1) here)
          | inr l ↦
              get_second cmp total r lawful (pairs_in cmp used0 order0) known q l
              ∙ from_within cmp total r lawful g.more known g.from_known q b (sym (get_second cmp total r lawful (pairs_in cmp used0 order0) g.more q l) ∙ here)
        ]

    -- what is used was not used before
    old_within : IsWithin cmp (pairs_in cmp used0 order0) used
    old_within q b h =
        in_map used order q b
        (subst (λ l. get cmp l q ≡ Some b) (sym g.read) (get_first cmp total r lawful (pairs_in cmp used0 order0) g.more q b h))

    pub done : (a : A) → r.body key used ≡ Done a → Done a ≡ r.body key (pairs_in cmp used0 order0 ++ known)
    done a e = sym (lawful.done_stays key used (pairs_in cmp used0 order0 ++ known) a e within)

    pub needs : (y : K) → r.body key used ≡ Needs y → get cmp known y ≡ None → Needs y ≡ r.body key (pairs_in cmp used0 order0 ++ known)
    needs y e lacks =
        sym (lawful.needs_stay key used (pairs_in cmp used0 order0 ++ known) y e within
        (elim (has_or_lacks cmp total lawful.one_key (pairs_in cmp used0 order0) y) [
          | inl s ↦ absurd (not_both cmp total lawful.one_key used y s.0 (old_within y s.0 s.1) (lawful.needs_lacking key used y e))
          | inr l ↦ get_second cmp total r lawful (pairs_in cmp used0 order0) known y l ∙ lacks
        ]))

    same_needs : (y : K) → r.body key used ≡ Needs y → r.body key (pairs_in cmp used order) ≡ Needs y
    same_needs y e = sym (same_body cmp total r lawful key used (pairs_in cmp used order) (map_within used order g.keys) (in_map used order)) ∙ e

    -- what it has used now comes after what it had used
    pub worked : (s : Step K A) → s ≡ r.body key (pairs_in cmp used0 order0 ++ known) → r.body key used ≡ s
        → IsWorked cmp r key known (pairs_in cmp used0 order0) s (pairs_in cmp used order)
    worked s gives e = record {
      gives = gives;
      further = g.more;
      uses = g.read;
      from_map = g.from_known;
      needs = λ y f. same_needs y (e ∙ f);
    }

  pub used_correct : (m : List (K × A)) (keys : List K) → AreKeysOf cmp m keys → IsCorrect cmp r (pairs_in cmp m keys) → IsCorrect cmp r m
  used_correct m keys all c k a h = c k a (map_within m keys all k a h)

  pub right_of :
      (f : Frame K A) (m : List (K × A)) (keys : List K) → f.read ≡ pairs_in cmp m keys → AreKeysOf cmp m keys
      → IsCorrect cmp r m → IsRight cmp r f
  right_of f m keys is all c = record {
    correct = subst (IsCorrect cmp r) (sym is) (λ k a h. c k a (in_map m keys k a h));
    distinct = subst (λ (l : List (K × A)). AreDistinct (map (λ (p : K × A). p.0) l)) (sym is) (distinct_pairs m keys all.distinct);
  }

-- Without Abandons a history is bounded: each key is published once, each pair of a key and one that it depends
-- on is asked once, and each Look follows an Ask that came to a wait.
use Rattle.std.proofs.Common.{◌≡◌, ◌⊎◌, inl, inr, ℕ, zero, suc, ◌+◌, ◌-◌, ◌*◌, ◌≤◌, List, [], ◌∷◌, ◌++◌, length, map, sum_by, Option, Some, None, IsSome, option_to_list, refl, sym, ◌∙◌, ap, subst, arith}
use Rattle.std.specs.Cmp.{IsTotalOrder}
use Rattle.std.specs.declared.cmp.Ordering.{Ordering}
use Rattle.std.proofs.lemmas.List.Sums.{sum_by-set}
use Rattle.def_query.specs.Keys.{IsIn, AreDistinct}
use Rattle.def_query.specs.Lawful.{IsLawful}
use Rattle.def_query.specs.Map.{get}
use Rattle.def_query.specs.Meaning.{Meaning}
use Rattle.def_query.specs.Settles.{Depends}
use Rattle.def_query.proofs.Walks.{in_append_left, in_append_right, in_append_cases}
use Rattle.def_query.proofs.Maps.{Same as Equal, Apart, compared, get_here, get_there}
use Rattle.def_core.specs.declared.event.Event.{Event}
use Rattle.def_core.specs.declared.event.Event.TheVariants.{Ask, Publish, Look, Abandon}
use Rattle.def_core.specs.State.{Caller, State, opening, caller_at, with_caller, idle, last, without_last}
use Rattle.def_core.specs.Replay.{caller_of, after, replay}
use Rattle.def_core.specs.Legal.{MayAsk, MayFollow, IsNext, HasAsked, top, Legal}
use Rattle.def_core.specs.Laws.{IsUnder, IsClosure, HasNoAbandon}
use Rattle.def_core.proofs.RootKeys.{root_of, asked_on, roots}
use Rattle.def_core.proofs.Closing.{last_claimed}
use Rattle.def_core.proofs.Lists.{append_nil, append_more, length_more, length_within, last_in, last_some, last_none}
use Rattle.def_core.proofs.Chains.{Holds, one_holder}
use Rattle.def_core.proofs.Histories.{split, Within, AtEnd, replay_snoc, roots_snoc, always}
use Rattle.def_core.proofs.Lines.{same_or_apart, is_there, not_none, in_range}
use Rattle.def_core.proofs.Events.{within}
use Rattle.def_core.proofs.Effects.{was, Cause, Knows, Circles, Claims, Waits, Publishes, Stops, Drops, effect}
use Rattle.def_core.proofs.Invariant.{Standing}
use Rattle.def_core.proofs.PublishedRight.{others_stay, next_of, standing}
use Rattle.def_core.proofs.Asked.{now}
use Rattle.def_core.proofs.LineMoves.{later, kept_on}
use Rattle.def_core.proofs.Roots.{front_empty, once, Rooted, rooted, under_more}

-- how many keys the caller waits for: none or one
abbrev waits : {K : Type 0} → Caller K → ℕ
waits w = length (option_to_list w.awaits)

abbrev waiting : {K : Type 0} → List (Caller K) → ℕ
waiting callers = sum_by waits callers

module _ {X Y : Type 0} where
  same_count : (f : X → Y) (xs : List X) → length (map f xs) ≡ length xs
  same_count f [] = refl
  same_count f (x ∷ xs) = ap suc (same_count f xs)

module _ {K A : Type 0} (cmp : K → K → Ordering) (total : IsTotalOrder cmp) (r : Meaning K A)
    (lawful : IsLawful cmp r) where
  none_waiting : (n : ℕ) → waiting (opening {K = K} {A = A} n).callers ≡ 0
  none_waiting zero = refl
  none_waiting (suc n) = let e = none_waiting n in omega arith

  key_has : (m : List (K × A)) (k : K) → IsIn k (map (λ (p : K × A). p.0) m) → IsSome (get cmp m k)
  key_has [] k h = absurd h
  key_has (p ∷ m) k h =
      elim (compared cmp total lawful.one_key k p.0) [
        | Equal e _ ↦
            is_there (get cmp (p ∷ m) k) p.1
            (subst (λ z. get cmp (p ∷ m) z ≡ Some p.1) (sym e) (get_here cmp total lawful.one_key p.0 p.1 m))
        | Apart apart _ ↦ elim h [
          | inl e ↦ absurd (apart e)
          | inr i ↦ subst IsSome (sym (get_there cmp total lawful.one_key p.0 k p.1 m apart)) (key_has m k i)
        ]
      ]

  -- how the numbers of published pairs and of waiting callers change
  data Count (n : ℕ) (h : List (Event K A)) (e : Event K A) : Type 0 where
    Asks :
        (k : K) → e ≡ Ask (caller_of e) k → MayAsk cmp r n h (caller_of e) k (top cmp r n h (caller_of e))
        → waiting (replay cmp n (h ++ e ∷ [])).callers ≤ waiting (replay cmp n h).callers + 1
        → (replay cmp n (h ++ e ∷ [])).published ≡ (replay cmp n h).published → Count n h e
    Gives :
        (a : A) → e ≡ Publish (caller_of e) a
        → waiting (replay cmp n (h ++ e ∷ [])).callers ≡ waiting (replay cmp n h).callers
        → length (replay cmp n (h ++ e ∷ [])).published ≡ length (replay cmp n h).published + 1 → Count n h e
    Sees :
        e ≡ Look (caller_of e) → waiting (replay cmp n (h ++ e ∷ [])).callers + 1 ≡ waiting (replay cmp n h).callers
        → (replay cmp n (h ++ e ∷ [])).published ≡ (replay cmp n h).published → Count n h e
    Leaves : e ≡ Abandon (caller_of e) → Count n h e

  -- how many wait after the event
  waiting_after :
      (n : ℕ) (h : List (Event K A)) (e : Event K A) (next : Caller K) (pairs : List (K × A)) → MayFollow cmp r n h e
      → after cmp (replay cmp n h) e
      ≡ record { published = pairs; callers = with_caller (replay cmp n h).callers (caller_of e) next }
      → waiting (replay cmp n (h ++ e ∷ [])).callers + waits (was cmp n h e)
      ≡ waiting (replay cmp n h).callers + waits next
  waiting_after n h e next pairs m is =
      ap (λ s. waiting s.callers + waits (was cmp n h e)) (replay_snoc cmp n h e ∙ is)
      ∙ sum_by-set waits (replay cmp n h).callers (caller_of e - 1) next idle (within cmp (replay cmp n h) e m.fits)

  -- the caller waits no longer
  awake_after :
      (n : ℕ) (h : List (Event K A)) (e : Event K A) (next : Caller K) (pairs : List (K × A)) → MayFollow cmp r n h e
      → after cmp (replay cmp n h) e
      ≡ record { published = pairs; callers = with_caller (replay cmp n h).callers (caller_of e) next }
      → next.awaits ≡ None
      → waiting (replay cmp n (h ++ e ∷ [])).callers + waits (was cmp n h e) ≡ waiting (replay cmp n h).callers
  awake_after n h e next pairs m is awake =
      let w = waiting_after n h e next pairs m is in
      let z : waits next ≡ 0 = ap (λ (o : Option K). length (option_to_list o)) awake in
      omega arith

  -- the caller waits
  asleep_after :
      (n : ℕ) (h : List (Event K A)) (e : Event K A) (next : Caller K) (pairs : List (K × A)) (k : K)
      → MayFollow cmp r n h e
      → after cmp (replay cmp n h) e
      ≡ record { published = pairs; callers = with_caller (replay cmp n h).callers (caller_of e) next }
      → next.awaits ≡ Some k
      → waiting (replay cmp n (h ++ e ∷ [])).callers ≤ waiting (replay cmp n h).callers + 1
  asleep_after n h e next pairs k m is waits_for =
      let w = waiting_after n h e next pairs m is in
      let z : waits next ≡ 1 = ap (λ (o : Option K). length (option_to_list o)) waits_for in
      omega arith

  -- a Look after which the caller waits no longer
  sees :
      (n : ℕ) (h : List (Event K A)) (e : Event K A) (k : K) → e ≡ Look (caller_of e) → (was cmp n h e).awaits ≡ Some k
      → waiting (replay cmp n (h ++ e ∷ [])).callers + waits (was cmp n h e) ≡ waiting (replay cmp n h).callers
      → (replay cmp n (h ++ e ∷ [])).published ≡ (replay cmp n h).published → Count n h e
  sees n h e k look waits_for w p =
      let y : waits (was cmp n h e) ≡ 1 = ap (λ (o : Option K). length (option_to_list o)) waits_for in
      Sees look (omega arith) p

  claims :
      (n : ℕ) (h : List (Event K A)) (e : Event K A) (k : K) → Cause cmp r n h e k
      → waiting (replay cmp n (h ++ e ∷ [])).callers + waits (was cmp n h e) ≡ waiting (replay cmp n h).callers
      → (replay cmp n (h ++ e ∷ [])).published ≡ (replay cmp n h).published → Count n h e
  claims n h e k (inl cause) w p = Asks k cause.0 cause.2 (omega arith) p
  claims n h e k (inr cause) w p = sees n h e k cause.0 cause.1 w p

  -- as many wait where the state stays
  same_waiting :
      (n : ℕ) (h : List (Event K A)) (e : Event K A) → after cmp (replay cmp n h) e ≡ replay cmp n h
      → waiting (replay cmp n (h ++ e ∷ [])).callers ≤ waiting (replay cmp n h).callers + 1
  same_waiting n h e is =
      let w : waiting (replay cmp n (h ++ e ∷ [])).callers ≡ waiting (replay cmp n h).callers =
      ap (λ q. waiting q.callers) (replay_snoc cmp n h e ∙ is) in
      omega arith

  count : (n : ℕ) (h : List (Event K A)) (e : Event K A) → MayFollow cmp r n h e → Count n h e
  count n h e m =
      elim (effect cmp r n h e m) [
        | Knows k ask _ _ may _ is ↦ Asks k ask may (same_waiting n h e is) (given is)
        | Circles k _ ask _ may _ _ is ↦ Asks k ask may (same_waiting n h e is) (given is)
        | Claims k cause _ is ↦ claims n h e k cause (awake_after n h e _ _ m is refl) (given is)
        | Waits k _ ask _ may _ is ↦ Asks k ask may (asleep_after n h e _ _ k m is refl) (given is)
        | Publishes t a publish awake _ _ is ↦
            (let w = awake_after n h e _ _ m is refl in
            let y : waits (was cmp n h e) ≡ 0 = ap (λ (o : Option K). length (option_to_list o)) awake in
            let l : length (replay cmp n (h ++ e ∷ [])).published ≡ suc (length (replay cmp n h).published) =
            ap length (given is) in
            Gives a publish (omega arith) (omega arith))
        | Stops k look waits_for _ is ↦ sees n h e k look waits_for (awake_after n h e _ _ m is refl) (given is)
        | Drops abandon _ ↦ Leaves abandon
      ]
    where
      given : {s : State K A} → after cmp (replay cmp n h) e ≡ s → (replay cmp n (h ++ e ∷ [])).published ≡ s.published
      given is = ap (λ s. s.published) (replay_snoc cmp n h e ∙ is)

  -- a claimed key is kept or published
  still_own :
      (n : ℕ) (h : List (Event K A)) (e : Event K A) (t : K) → Standing cmp total r lawful n h → MayFollow cmp r n h e
      → ¬ (e ≡ Abandon (caller_of e)) → IsIn t (was cmp n h e).chain
      → IsIn t (later cmp n h e).chain ⊎ IsSome (get cmp (replay cmp n (h ++ e ∷ [])).published t)
  still_own n h e t st m stays isin =
      elim (effect cmp r n h e m) [
        | Knows _ _ _ _ _ _ is ↦
            inl (subst (λ q. IsIn t (caller_at q.callers (caller_of e)).chain) (sym (replay_snoc cmp n h e ∙ is)) isin)
        | Circles _ _ _ _ _ _ _ is ↦
            inl (subst (λ q. IsIn t (caller_at q.callers (caller_of e)).chain) (sym (replay_snoc cmp n h e ∙ is)) isin)
        | Claims k _ _ is ↦ inl (to _ _ is (in_append_left t w.chain (k ∷ []) isin))
        | Waits _ _ _ _ _ _ is ↦ inl (to _ _ is isin)
        | Publishes u a _ _ is_last _ is ↦
            elim (in_append_cases t (without_last w.chain) (u ∷ []) (subst (IsIn t) (last_some w.chain u is_last) isin)) [
              | inl i ↦ inl (to _ _ is i)
              | inr i ↦ elim i [
                | inl same ↦
                    inr (subst (λ q. IsSome (get cmp q.published t)) (sym (replay_snoc cmp n h e ∙ is))
                    (subst (λ z. IsSome (get cmp ((u, a) ∷ (replay cmp n h).published) z)) (sym same)
                    (is_there (get cmp ((u, a) ∷ (replay cmp n h).published) u) a
                    (get_here cmp total lawful.one_key u a (replay cmp n h).published))))
                | inr none ↦ absurd none
              ]
            ]
        | Stops _ _ _ _ is ↦ inl (to _ _ is isin)
        | Drops abandon _ ↦ absurd (stays abandon)
      ]
    where
      w : Caller K
      w = was cmp n h e

      to :
          (next : Caller K) (pairs : List (K × A))
          → after cmp (replay cmp n h) e
          ≡ record { published = pairs; callers = with_caller (replay cmp n h).callers (caller_of e) next }
          → IsIn t next.chain → IsIn t (later cmp n h e).chain
      to next pairs is i = subst (λ (q : Caller K). IsIn t q.chain) (sym (now cmp total r lawful n h e next pairs m is)) i

  still :
      (n : ℕ) (h : List (Event K A)) (e : Event K A) (c : ℕ) (t : K) → Standing cmp total r lawful n h
      → MayFollow cmp r n h e
      → ¬ (e ≡ Abandon (caller_of e)) → 1 ≤ c → IsIn t (caller_at (replay cmp n h).callers c).chain
      → IsIn t (caller_at (replay cmp n (h ++ e ∷ [])).callers c).chain
      ⊎ IsSome (get cmp (replay cmp n (h ++ e ∷ [])).published t)
  still n h e c t st m stays l isin =
      elim (same_or_apart (caller_of e) c) [
        | inl same ↦
            subst
            (λ d. IsIn t (caller_at (replay cmp n (h ++ e ∷ [])).callers d).chain
            ⊎ IsSome (get cmp (replay cmp n (h ++ e ∷ [])).published t))
            same
            (still_own n h e t st m stays
            (subst (λ d. IsIn t (caller_at (replay cmp n h).callers d).chain) (sym same) isin))
        | inr apart ↦
            inl (subst (λ (q : Caller K). IsIn t q.chain)
            (sym (ap (λ q. caller_at q.callers c) (replay_snoc cmp n h e)
            ∙ others_stay cmp total r lawful (replay cmp n h) e c m.fits.least l apart))
            isin)
      ]

  -- what was asked stays asked, as long as the asking key is claimed
  asked_more :
      (n : ℕ) (h : List (Event K A)) (e : Event K A) (c : ℕ) (t k : K)
      → IsIn t (caller_at (replay cmp n (h ++ e ∷ [])).callers c).chain
      → HasAsked cmp r n h c t k → HasAsked cmp r n (h ++ e ∷ []) c t k
  asked_more n h e c t k isin asked = record {
    before = asked.before;
    behind = asked.behind ++ e ∷ [];
    is = whole;
    as_last = asked.as_last;
    since = since;
  }
    where
      whole : h ++ e ∷ [] ≡ asked.before ++ Ask c k ∷ (asked.behind ++ e ∷ [])
      whole = ap (λ w. w ++ e ∷ []) asked.is ∙ append_more asked.before (Ask c k ∷ asked.behind) (e ∷ [])

      since :
          (mid rest : List (Event K A)) → asked.behind ++ e ∷ [] ≡ mid ++ rest
          → IsIn t (caller_at (replay cmp n (asked.before ++ Ask c k ∷ mid)).callers c).chain
      since mid [] s =
          subst (λ q. IsIn t (caller_at (replay cmp n q).callers c).chain)
          (whole ∙ ap (λ w. asked.before ++ Ask c k ∷ w) (s ∙ append_nil mid)) isin
      since mid (x ∷ rest) s =
          elim (split asked.behind e mid x rest s) [
            | Within more _ j ↦ asked.since mid (x ∷ more) j
            | AtEnd _ j _ ↦ asked.since mid [] (sym j ∙ sym (append_nil mid))
          ]

  -- with p.0 as its last key a caller has asked p.1, and it has kept p.0
  record Asking (n : ℕ) (h : List (Event K A)) (p : K × K) : Type 0 where
    caller : ℕ
    least : 1 ≤ caller
    asked : HasAsked cmp r n h caller p.0 p.1
    isin : IsIn p.0 (caller_at (replay cmp n h).callers caller).chain

  -- the pairs of a key and one that it asked
  record Counted (n : ℕ) (h : List (Event K A)) : Type 0 where
    pairs : List (K × K)
    distinct : AreDistinct pairs
    depends : (p : K × K) → IsIn p pairs → Depends cmp r p.0 p.1 × IsUnder cmp r (roots cmp r n h) p.0
    asked : (p : K × K) → IsIn p pairs → IsSome (get cmp (replay cmp n h).published p.0) ⊎ Asking n h p
    bound :
        length h + waiting (replay cmp n h).callers
        ≤ length (replay cmp n h).published + 2 * (length pairs + length (roots cmp r n h))

  asked_old :
      (n : ℕ) (h : List (Event K A)) (e : Event K A) (p : K × K) → Standing cmp total r lawful n h → MayFollow cmp r n h e
      → ¬ (e ≡ Abandon (caller_of e)) → IsSome (get cmp (replay cmp n h).published p.0) ⊎ Asking n h p
      → IsSome (get cmp (replay cmp n (h ++ e ∷ [])).published p.0) ⊎ Asking n (h ++ e ∷ []) p
  asked_old n h e p st m stays (inl done) = inl (kept_on cmp total r lawful n h e p.0 st.sound m done)
  asked_old n h e p st m stays (inr a) =
      elim (still n h e a.caller p.0 st m stays a.least a.isin) [
        | inl i ↦
            inr record {
              caller = a.caller;
              least = a.least;
              asked = asked_more n h e a.caller p.0 p.1 i a.asked;
              isin = i;
            }
        | inr done ↦ inl done
      ]

  length_snoc : {X : Type 0} (xs : List X) (x : X) → length (xs ++ x ∷ []) ≡ length xs + 1
  length_snoc xs x = length_more xs (x ∷ [])

  roots_length :
      (n : ℕ) (h : List (Event K A)) (e : Event K A)
      → length (roots cmp r n (h ++ e ∷ [])) ≡ length (roots cmp r n h) + length (root_of cmp r (replay cmp n h) e)
  roots_length n h e =
      ap length (roots_snoc cmp r n h e) ∙ length_more (roots cmp r n h) (root_of cmp r (replay cmp n h) e)

  -- the same pairs after an event that asks none
  same_pairs :
      (n : ℕ) (h : List (Event K A)) (e : Event K A) → Standing cmp total r lawful n h → MayFollow cmp r n h e
      → ¬ (e ≡ Abandon (caller_of e)) → (c : Counted n h)
      → length (h ++ e ∷ []) + waiting (replay cmp n (h ++ e ∷ [])).callers
      ≤ length (replay cmp n (h ++ e ∷ [])).published + 2 * (length c.pairs + length (roots cmp r n (h ++ e ∷ [])))
      → Counted n (h ++ e ∷ [])
  same_pairs n h e st m stays c bound = record {
    pairs = c.pairs;
    distinct = c.distinct;
    depends = λ p i. let q = c.depends p i in (q.0, under_more cmp total r lawful n h e p.0 q.1);
    asked = λ p i. asked_old n h e p st m stays (c.asked p i);
    bound = bound;
  }

  -- an Ask whose chain has the last key t
  pair_fresh :
      (n : ℕ) (h : List (Event K A)) (e : Event K A) (t k : K) → Standing cmp total r lawful n h → MayFollow cmp r n h e
      → top cmp r n h (caller_of e) ≡ Some t → IsNext cmp r n h (caller_of e) t k → (c : Counted n h)
      → ¬ IsIn (t, k) c.pairs
  pair_fresh n h e t k st m is_top next c i =
      elim (c.asked (t, k) i) [
        | inl done ↦
            not_none (get cmp (replay cmp n h).published t) done
            (st.sound.tidy.unpublished t (last_claimed (replay cmp n h).callers (caller_of e) t is_top))
        | inr a ↦ next.once (subst (λ d. HasAsked cmp r n h d t k) (same a) a.asked)
      ]
    where
      same : (a : Asking n h (t, k)) → a.caller ≡ caller_of e
      same a =
          let s : State K A = replay cmp n h in
          let held : Holds s.callers (a.caller - 1) t =
          record { within = in_range s.callers (a.caller - 1) t a.isin; has = a.isin } in
          let own : Holds s.callers (caller_of e - 1) t =
          record { within = within cmp (replay cmp n h) e m.fits; has = last_in (was cmp n h e).chain t is_top } in
          let l : 1 ≤ caller_of e = m.fits.least in
          let k : 1 ≤ a.caller = a.least in
          let e : a.caller - 1 ≡ caller_of e - 1 =
          one_holder s.callers (a.caller - 1) (caller_of e - 1) t st.sound.tidy.distinct held own in
          omega arith

  asks_now :
      (n : ℕ) (h : List (Event K A)) (e : Event K A) (t k : K) → MayFollow cmp r n h e → e ≡ Ask (caller_of e) k
      → top cmp r n h (caller_of e) ≡ Some t → IsIn t (later cmp n h e).chain
      → Asking n (h ++ e ∷ []) (t, k)
  asks_now n h e t k m ask is_top isin = record {
    caller = caller_of e;
    least = m.fits.least;
    asked = record {
      before = h;
      behind = [];
      is = ap (λ x. h ++ x ∷ []) ask;
      as_last = is_top;
      since = λ mid rest s.
          let none : mid ≡ [] = front_empty mid rest (sym s) in
          subst (λ q. IsIn t (caller_at (replay cmp n (h ++ q)).callers (caller_of e)).chain)
          (ap (λ x. x ∷ []) ask ∙ ap (λ w. Ask (caller_of e) k ∷ w) (sym none)) isin;
    };
    isin = isin;
  }

  -- an Ask on an empty chain is one root more
  ask_root :
      (n : ℕ) (h : List (Event K A)) (e : Event K A) (k : K) → e ≡ Ask (caller_of e) k
      → top cmp r n h (caller_of e) ≡ None
      → length (root_of cmp r (replay cmp n h) e) ≡ 1
  ask_root n h e k ask none =
      ap (λ x. length (root_of cmp r (replay cmp n h) x)) ask
      ∙ ap (λ l. length (asked_on cmp r l k)) (last_none (was cmp n h e).chain none)

  no_root_on : (l : List K) (t k : K) → last l ≡ Some t → asked_on cmp r l k ≡ []
  no_root_on [] t k e = absurd (let f : None ≡ Some t = e in cc)
  no_root_on (x ∷ l) t k e = refl

  -- and an Ask on another chain none
  ask_no_root :
      (n : ℕ) (h : List (Event K A)) (e : Event K A) (t k : K) → e ≡ Ask (caller_of e) k
      → top cmp r n h (caller_of e) ≡ Some t
      → length (root_of cmp r (replay cmp n h) e) ≡ 0
  ask_no_root n h e t k ask is_top =
      ap (λ x. length (root_of cmp r (replay cmp n h) x)) ask
      ∙ ap length (no_root_on (was cmp n h e).chain t k is_top)

  -- the key that asks keeps its place
  asks_still :
      (n : ℕ) (h : List (Event K A)) (e : Event K A) (t : K) → Standing cmp total r lawful n h → MayFollow cmp r n h e
      → ¬ (e ≡ Abandon (caller_of e)) → top cmp r n h (caller_of e) ≡ Some t
      → (replay cmp n (h ++ e ∷ [])).published ≡ (replay cmp n h).published
      → IsIn t (later cmp n h e).chain
  asks_still n h e t st m stays is_top same =
      elim (still_own n h e t st m stays (last_in (was cmp n h e).chain t is_top)) [
        | inl i ↦ i
        | inr done ↦
            absurd (not_none (get cmp (replay cmp n h).published t)
            (subst (λ q. IsSome (get cmp q t)) same done)
            (st.sound.tidy.unpublished t (last_claimed (replay cmp n h).callers (caller_of e) t is_top)))
      ]

  -- an Ask counts one pair more
  counted_pair :
      (n : ℕ) (h : List (Event K A)) (e : Event K A) (t k : K) → Standing cmp total r lawful n h
      → Rooted cmp total r lawful n h
      → MayFollow cmp r n h e → ¬ (e ≡ Abandon (caller_of e)) → (c : Counted n h) → e ≡ Ask (caller_of e) k
      → top cmp r n h (caller_of e) ≡ Some t → IsNext cmp r n h (caller_of e) t k
      → waiting (replay cmp n (h ++ e ∷ [])).callers ≤ waiting (replay cmp n h).callers + 1
      → (replay cmp n (h ++ e ∷ [])).published ≡ (replay cmp n h).published → Counted n (h ++ e ∷ [])
  counted_pair n h e t k st ro m stays c ask is_top next w same =
      let chain : List K = (was cmp n h e).chain in
      let under : IsUnder cmp r (roots cmp r n h) t =
      ro.lines (caller_of e - 1) t
      (in_append_left t chain (option_to_list (was cmp n h e).awaits) (last_in chain t is_top)) in
      let l : length (h ++ e ∷ []) ≡ length h + 1 = length_snoc h e in
      let p : length (replay cmp n (h ++ e ∷ [])).published ≡ length (replay cmp n h).published = ap length same in
      let g : length (roots cmp r n (h ++ e ∷ [])) ≡ length (roots cmp r n h)
      + length (root_of cmp r (replay cmp n h) e) =
      roots_length n h e in
      let z : length (root_of cmp r (replay cmp n h) e) ≡ 0 = ask_no_root n h e t k ask is_top in
      let b :
      length h + waiting (replay cmp n h).callers
      ≤ length (replay cmp n h).published + 2 * (length c.pairs + length (roots cmp r n h)) = c.bound in
      let q : length ((t, k) ∷ c.pairs) ≡ suc (length c.pairs) = refl in
      record {
        pairs = (t, k) ∷ c.pairs;
        distinct = (pair_fresh n h e t k st m is_top next c, c.distinct);
        depends = λ p i.
            elim i [
              | inl e' ↦ (
                subst (λ (v : K × K). Depends cmp r v.0 v.1) (sym e') next.depends,
                subst (λ (v : K × K). IsUnder cmp r (roots cmp r n (h ++ e ∷ [])) v.0) (sym e')
                    (under_more cmp total r lawful n h e t under),
              )
              | inr i' ↦ (let u = c.depends p i' in (u.0, under_more cmp total r lawful n h e p.0 u.1))
            ];
        asked = λ p i.
            elim i [
              | inl e' ↦
                  inr (subst (Asking n (h ++ e ∷ [])) (sym e')
                  (asks_now n h e t k m ask is_top (asks_still n h e t st m stays is_top same)))
              | inr i' ↦ asked_old n h e p st m stays (c.asked p i')
            ];
        bound = omega arith;
      }

  counted_ask :
      (n : ℕ) (h : List (Event K A)) (e : Event K A) (k : K) → Standing cmp total r lawful n h
      → Rooted cmp total r lawful n h
      → MayFollow cmp r n h e → ¬ (e ≡ Abandon (caller_of e)) → (c : Counted n h) → e ≡ Ask (caller_of e) k
      → MayAsk cmp r n h (caller_of e) k (top cmp r n h (caller_of e))
      → waiting (replay cmp n (h ++ e ∷ [])).callers ≤ waiting (replay cmp n h).callers + 1
      → (replay cmp n (h ++ e ∷ [])).published ≡ (replay cmp n h).published → Counted n (h ++ e ∷ [])
  counted_ask n h e k st ro m stays c ask may w same = go (top cmp r n h (caller_of e)) refl
    where
      go : (o : Option K) → top cmp r n h (caller_of e) ≡ o → Counted n (h ++ e ∷ [])
      go (Some t) is_top =
          counted_pair n h e t k st ro m stays c ask is_top
          (next_of cmp total r lawful n h (caller_of e) k t may is_top) w same
      go None none =
          let l : length (h ++ e ∷ []) ≡ length h + 1 = length_snoc h e in
          let p : length (replay cmp n (h ++ e ∷ [])).published ≡ length (replay cmp n h).published = ap length same in
          let g : length (roots cmp r n (h ++ e ∷ [])) ≡ length (roots cmp r n h)
          + length (root_of cmp r (replay cmp n h) e) =
          roots_length n h e in
          let z : length (root_of cmp r (replay cmp n h) e) ≡ 1 = ask_root n h e k ask none in
          let b :
          length h + waiting (replay cmp n h).callers
          ≤ length (replay cmp n h).published + 2 * (length c.pairs + length (roots cmp r n h)) = c.bound in
          same_pairs n h e st m stays c (omega arith)

  counted_after :
      (n : ℕ) (h : List (Event K A)) (e : Event K A) → Legal cmp r n h → MayFollow cmp r n h e
      → ¬ (e ≡ Abandon (caller_of e))
      → Counted n h → Counted n (h ++ e ∷ [])
  counted_after n h e legal m stays c =
      let st : Standing cmp total r lawful n h = standing cmp total r lawful n h legal in
      let l : length (h ++ e ∷ []) ≡ length h + 1 = length_snoc h e in
      let g : length (roots cmp r n (h ++ e ∷ [])) ≡ length (roots cmp r n h)
      + length (root_of cmp r (replay cmp n h) e) =
      roots_length n h e in
      let b :
      length h + waiting (replay cmp n h).callers
      ≤ length (replay cmp n h).published + 2 * (length c.pairs + length (roots cmp r n h)) = c.bound in
      elim (count n h e m) [
        | Asks k ask may w same ↦ counted_ask n h e k st (rooted cmp total r lawful n h legal) m stays c ask may w same
        | Gives _ _ w more ↦ same_pairs n h e st m stays c (omega arith)
        | Sees _ w same ↦
            (let p : length (replay cmp n (h ++ e ∷ [])).published ≡ length (replay cmp n h).published = ap length same in
            same_pairs n h e st m stays c (omega arith))
        | Leaves abandon ↦ absurd (stays abandon)
      ]

  counted : (n : ℕ) (h : List (Event K A)) → Legal cmp r n h → HasNoAbandon cmp r h → Counted n h
  counted n =
      always cmp r n (λ h. HasNoAbandon cmp r h → Counted n h)
      (λ _. record {
        pairs = [];
        distinct = tt;
        depends = λ p i. absurd i;
        asked = λ p i. absurd i;
        bound = (let e = none_waiting n in omega arith);
      })
      (λ h e legal ih m no_abandon.
      counted_after n h e legal m
      (λ abandon. no_abandon (caller_of e) (in_append_right (Abandon (caller_of e)) h (e ∷ []) (inl (sym abandon))))
      (ih (λ c i. no_abandon c (in_append_left (Abandon c) h (e ∷ []) i))))

  -- the bound on histories without Abandons
  pub bounded :
      (n : ℕ) (h : List (Event K A)) → Legal cmp r n h → HasNoAbandon cmp r h
      → (keys : List K) (edges : List (K × K)) → IsClosure cmp r (roots cmp r n h) keys edges
      → length h ≤ length keys + 2 * (length edges + length (roots cmp r n h))
  bounded n h legal no_abandon keys edges closure =
      let c : Counted n h = counted n h legal no_abandon in
      let given : List K = map (λ (p : K × A). p.0) (replay cmp n h).published in
      let same : length given ≡ length (replay cmp n h).published =
      same_count (λ (p : K × A). p.0) (replay cmp n h).published in
      let published : length given ≤ length keys =
      length_within given keys (once cmp total r lawful n h legal)
      (λ k i. (closure.lies k).1
      ((rooted cmp total r lawful n h legal).published k (key_has (replay cmp n h).published k i))) in
      let pairs : length c.pairs ≤ length edges =
      length_within c.pairs edges c.distinct
      (λ p i. let d = c.depends p i in (closure.pairs p.0 p.1).1 ((closure.lies p.0).1 d.1, d.0)) in
      let b :
      length h + waiting (replay cmp n h).callers
      ≤ length (replay cmp n h).published + 2 * (length c.pairs + length (roots cmp r n h)) = c.bound in
      omega arith

-- What is claimed, awaited or published lies under the keys that were asked on an empty chain.
use Rattle.std.proofs.Common.{◌≡◌, ◌⊎◌, inl, inr, ℕ, true, false, ◌+◌, ◌-◌, List, [], ◌∷◌, ◌++◌, get_or, map, Option, Some, None, IsSome, option_to_list, refl, sym, ◌∙◌, ap, subst}
use Rattle.std.specs.Cmp.{IsTotalOrder}
use Rattle.std.specs.declared.cmp.Ordering.{Ordering}
use Rattle.def_query.specs.Keys.{IsIn, AreDistinct}
use Rattle.def_query.specs.Lawful.{IsLawful}
use Rattle.def_query.specs.Map.{get}
use Rattle.def_query.specs.Meaning.{Meaning}
use Rattle.def_query.specs.Settles.{Depends}
use Rattle.def_query.proofs.Walks.{in_append_left, in_append_right, in_append_cases, leads_step, reaches_join}
use Rattle.def_query.proofs.Maps.{Same as Equal, Apart, compared, get_cases, get_here, get_there}
use Rattle.def_core.specs.declared.event.Event.{Event}
use Rattle.def_core.specs.declared.event.Event.TheVariants.{Ask, Publish, Look, Abandon}
use Rattle.def_core.specs.State.{Caller, State, caller_at, idle, last, AreIdle}
use Rattle.def_core.specs.Replay.{caller_of, replay}
use Rattle.def_core.specs.Legal.{MayAsk, MayFollow, top, Legal}
use Rattle.def_core.specs.Laws.{IsUnder, HasNoAbandon, ArePublished}
use Rattle.def_core.proofs.RootKeys.{root_of, asked_on, roots}
use Rattle.def_core.proofs.Lists.{last_in, last_none, in_snoc}
use Rattle.def_core.proofs.EventKinds.{same_key, no_ask_publish, no_ask_look, no_ask_abandon}
use Rattle.def_core.proofs.Histories.{roots_snoc, always}
use Rattle.def_core.proofs.Lines.{same_or_apart, line, is_there}
use Rattle.def_core.proofs.Tidy.{some_is}
use Rattle.def_core.proofs.Effects.{was, Cause, Knows, Circles, Claims, Waits, Publishes, Stops, Drops, effect}
use Rattle.def_core.proofs.Invariant.{Standing, all_idle, ask_depends}
use Rattle.def_core.proofs.Closing.{closing_by, last_claimed}
use Rattle.def_core.proofs.PublishedRight.{standing}
use Rattle.def_core.proofs.Asked.{now}
use Rattle.def_core.proofs.LeadsDown.{at_number}
use Rattle.def_core.proofs.LineMoves.{place_stays, later, Same, Grows, Shrinks, Clears, move, Nothing, One, gain, kept_on}

module _ {X : Type 0} where
  -- the first of a list to which one element is added
  first_grown :
      (l : List X) (k x : X) (xs : List X) → l ++ k ∷ [] ≡ x ∷ xs → ((l ≡ []) × (x ≡ k)) ⊎ ((ys : List X) × (l ≡ x ∷ ys))
  first_grown [] k x xs e = let e' : k ∷ [] ≡ x ∷ xs = e in inl (refl, (let f : x ≡ k = cc in f))
  first_grown (y ∷ l) k x xs e =
      let e' : y ∷ (l ++ k ∷ []) ≡ x ∷ xs = e in
      let f : y ≡ x = cc in
      inr (l, ap (λ z. z ∷ l) f)

  pub front_empty : (xs ys : List X) → xs ++ ys ≡ [] → xs ≡ []
  front_empty [] ys e = refl
  front_empty (x ∷ xs) ys e = absurd (let f : x ∷ (xs ++ ys) ≡ [] = e in cc)

module _ {K A : Type 0} (cmp : K → K → Ordering) (total : IsTotalOrder cmp) (r : Meaning K A)
    (lawful : IsLawful cmp r) where
  pub lacking : (m : List (K × A)) (k : K) → get cmp m k ≡ None → ¬ IsIn k (map (λ (p : K × A). p.0) m)
  lacking [] k e h = h
  lacking (p ∷ m) k e h =
      elim (compared cmp total lawful.one_key k p.0) [
        | Equal same _ ↦
            (let here : get cmp (p ∷ m) k ≡ Some p.1 = subst (λ z. get cmp (p ∷ m) z ≡ Some p.1) (sym same)
            (get_here cmp total lawful.one_key p.0 p.1 m) in
            let f : Some p.1 ≡ None = sym here ∙ e in
            cc)
        | Apart apart t ↦ elim h [
          | inl same ↦ apart same
          | inr i ↦ lacking m k (sym (get_there cmp total lawful.one_key p.0 k p.1 m apart) ∙ e) i
        ]
      ]

  -- no key is published twice
  pub once :
      (n : ℕ) (h : List (Event K A)) → Legal cmp r n h → AreDistinct (map (λ (p : K × A). p.0) (replay cmp n h).published)
  once n =
      always cmp r n (λ h. AreDistinct (map (λ (p : K × A). p.0) (replay cmp n h).published)) tt
      (λ h e legal ih m.
      let st : Standing cmp total r lawful n h = standing cmp total r lawful n h legal in
      elim (gain cmp total r lawful n h e st m) [
        | Nothing is ↦ subst (λ p. AreDistinct (map (λ (q : K × A). q.0) p)) (sym is) ih
        | One t a _ is_top _ is ↦
            subst (λ p. AreDistinct (map (λ (q : K × A). q.0) p)) (sym is) (
              lacking (replay cmp n h).published t
                  (st.sound.tidy.unpublished t (last_claimed (replay cmp n h).callers (caller_of e) t is_top)),
              ih,
            )
      ])

  pub record Rooted (n : ℕ) (h : List (Event K A)) : Type 0 where
    -- what is claimed or awaited lies under the roots, and the first key of a line is a root
    pub lines :
        (i : ℕ) (k : K) → IsIn k (line (get_or (replay cmp n h).callers i idle)) → IsUnder cmp r (roots cmp r n h) k
    pub heads :
        (i : ℕ) (x : K) (xs : List K) → line (get_or (replay cmp n h).callers i idle) ≡ x ∷ xs → IsIn x (roots cmp r n h)
    pub published : (k : K) → IsSome (get cmp (replay cmp n h).published k) → IsUnder cmp r (roots cmp r n h) k

  root_more :
      (n : ℕ) (h : List (Event K A)) (e : Event K A) (x : K) → IsIn x (roots cmp r n h)
      → IsIn x (roots cmp r n (h ++ e ∷ []))
  root_more n h e x i =
      subst (IsIn x) (sym (roots_snoc cmp r n h e))
      (in_append_left x (roots cmp r n h) (root_of cmp r (replay cmp n h) e) i)

  pub under_more :
      (n : ℕ) (h : List (Event K A)) (e : Event K A) (k : K) → IsUnder cmp r (roots cmp r n h) k
      → IsUnder cmp r (roots cmp r n (h ++ e ∷ [])) k
  under_more n h e k u = (u.0, root_more n h e u.0 u.1, u.2)

  -- what is asked on an empty chain is a root
  root_asked :
      (n : ℕ) (h : List (Event K A)) (e : Event K A) (k : K) → e ≡ Ask (caller_of e) k
      → (was cmp n h e).chain ≡ [] → IsIn k (roots cmp r n (h ++ e ∷ []))
  root_asked n h e k ask none =
      let one : root_of cmp r (replay cmp n h) e ≡ k ∷ [] =
      ap (root_of cmp r (replay cmp n h)) ask ∙ ap (λ l. asked_on cmp r l k) none in
      subst (IsIn k) (sym (roots_snoc cmp r n h e))
      (in_append_right k (roots cmp r n h) (root_of cmp r (replay cmp n h) e) (subst (IsIn k) (sym one) (inl refl)))

  pub depends_under : (keys : List K) (t k : K) → IsUnder cmp r keys t → Depends cmp r t k → IsUnder cmp r keys k
  depends_under keys t k u d =
      (u.0, u.1, reaches_join (Depends cmp r) u.0 t k u.2 (inr (leads_step (Depends cmp r) t k d)))

  -- what is asked lies under the roots
  pub asked_under :
      (n : ℕ) (h : List (Event K A)) (e : Event K A) (k : K) → Rooted n h → e ≡ Ask (caller_of e) k
      → MayAsk cmp r n h (caller_of e) k (top cmp r n h (caller_of e)) → IsUnder cmp r (roots cmp r n (h ++ e ∷ [])) k
  asked_under n h e k ro ask may = go (top cmp r n h (caller_of e)) refl
    where
      w : Caller K
      w = was cmp n h e

      go : (o : Option K) → top cmp r n h (caller_of e) ≡ o → IsUnder cmp r (roots cmp r n (h ++ e ∷ [])) k
      go None none = (k, root_asked n h e k ask (last_none w.chain none), inl refl)
      go (Some t) is_top =
          under_more n h e k
          (depends_under (roots cmp r n h) t k
          (ro.lines (caller_of e - 1) t (in_append_left t w.chain (option_to_list w.awaits) (last_in w.chain t is_top)))
          (ask_depends cmp total r lawful n h (caller_of e) k t may is_top))

  own_line :
      (n : ℕ) (h : List (Event K A)) (e : Event K A) (k : K) → Rooted n h → Standing cmp total r lawful n h
      → MayFollow cmp r n h e
      → IsIn k (line (later cmp n h e)) → IsUnder cmp r (roots cmp r n (h ++ e ∷ [])) k
  own_line n h e k ro st m isin =
      elim (move cmp total r lawful n h e st m) [
        | Same is ↦ under_more n h e k (ro.lines (caller_of e - 1) k (subst (IsIn k) is isin))
        | Grows j ask _ may is ↦ elim (in_append_cases k (line w) (j ∷ []) (subst (IsIn k) is isin)) [
          | inl old ↦ under_more n h e k (ro.lines (caller_of e - 1) k old)
          | inr new ↦ elim new [
            | inl same ↦ subst (IsUnder cmp r (roots cmp r n (h ++ e ∷ []))) (sym same) (asked_under n h e j ro ask may)
            | inr none ↦ absurd none
          ]
        ]
        | Shrinks j is _ ↦
            under_more n h e k
            (ro.lines (caller_of e - 1) k
            (subst (IsIn k) (sym is) (in_append_left k (line (later cmp n h e)) (j ∷ []) isin)))
        | Clears _ is ↦ absurd (subst (IsIn k) is isin)
      ]
    where
      w : Caller K
      w = was cmp n h e

  own_head :
      (n : ℕ) (h : List (Event K A)) (e : Event K A) (x : K) (xs : List K) → Rooted n h → Standing cmp total r lawful n h
      → MayFollow cmp r n h e
      → line (later cmp n h e) ≡ x ∷ xs → IsIn x (roots cmp r n (h ++ e ∷ []))
  own_head n h e x xs ro st m starts =
      elim (move cmp total r lawful n h e st m) [
        | Same is ↦ root_more n h e x (ro.heads (caller_of e - 1) x xs (sym is ∙ starts))
        | Grows j ask _ _ is ↦ elim (first_grown (line w) j x xs (sym is ∙ starts)) [
          | inl new ↦
              subst (λ z. IsIn z (roots cmp r n (h ++ e ∷ []))) (sym new.1)
              (root_asked n h e j ask (front_empty w.chain (option_to_list w.awaits) new.0))
          | inr old ↦ root_more n h e x (ro.heads (caller_of e - 1) x old.0 old.1)
        ]
        | Shrinks j is _ ↦
            root_more n h e x (ro.heads (caller_of e - 1) x (xs ++ j ∷ []) (is ∙ ap (λ l. l ++ j ∷ []) starts))
        | Clears _ is ↦ absurd (let f : [] ≡ x ∷ xs = sym is ∙ starts in cc)
      ]
    where
      w : Caller K
      w = was cmp n h e

  rooted_after :
      (n : ℕ) (h : List (Event K A)) (e : Event K A) → Standing cmp total r lawful n h → Rooted n h
      → MayFollow cmp r n h e
      → Rooted n (h ++ e ∷ [])
  rooted_after n h e st ro m = record {
    lines = λ i k isin.
        elim (same_or_apart i (caller_of e - 1)) [
          | inl same ↦
              own_line n h e k ro st m
              (subst (λ j. IsIn k (line (get_or (replay cmp n (h ++ e ∷ [])).callers j idle))) same isin)
          | inr apart ↦
              under_more n h e k (ro.lines i k (subst (λ w. IsIn k (line w)) (place_stays cmp n h e i apart) isin))
        ];
    heads = λ i x xs starts.
        elim (same_or_apart i (caller_of e - 1)) [
          | inl same ↦
              own_head n h e x xs ro st m
              (subst (λ j. line (get_or (replay cmp n (h ++ e ∷ [])).callers j idle) ≡ x ∷ xs) same starts)
          | inr apart ↦
              root_more n h e x (ro.heads i x xs (subst (λ w. line w ≡ x ∷ xs) (place_stays cmp n h e i apart) starts))
        ];
    published = λ k p.
        elim (gain cmp total r lawful n h e st m) [
          | Nothing is ↦ under_more n h e k (ro.published k (subst (λ q. IsSome (get cmp q k)) is p))
          | One t a _ is_top _ is ↦ under_more n h e k (got t a is_top k (subst (λ q. IsSome (get cmp q k)) is p))
        ];
  }
    where
      w : Caller K
      w = was cmp n h e

      got :
          (t : K) (a : A) → top cmp r n h (caller_of e) ≡ Some t → (k : K)
          → IsSome (get cmp ((t, a) ∷ (replay cmp n h).published) k) → IsUnder cmp r (roots cmp r n h) k
      got t a is_top k p =
          let b = some_is (get cmp ((t, a) ∷ (replay cmp n h).published) k) p in
          elim (get_cases cmp total lawful.one_key t k a b.0 (replay cmp n h).published b.1) [
            | inl here ↦
                subst (IsUnder cmp r (roots cmp r n h)) (sym here.0)
                (ro.lines (caller_of e - 1) t
                (in_append_left t w.chain (option_to_list w.awaits) (last_in w.chain t is_top)))
            | inr old ↦ ro.published k (is_there (get cmp (replay cmp n h).published k) b.0 old)
          ]

  pub rooted : (n : ℕ) (h : List (Event K A)) → Legal cmp r n h → Rooted n h
  rooted n =
      always cmp r n (Rooted n)
      record {
        lines = λ i k isin. absurd (subst (λ (w : Caller K). IsIn k (line w)) (all_idle cmp total r lawful n i) isin);
        heads = λ i x xs starts.
            let f : [] ≡ x ∷ xs = subst (λ (w : Caller K). line w ≡ x ∷ xs) (all_idle cmp total r lawful n i) starts in
            absurd (cc);
        published = λ k p. absurd (let f : false ≡ true = p in cc);
      }
      (λ h e legal ro m. rooted_after n h e (standing cmp total r lawful n h legal) ro m)

  -- a root of one event is asked by it on an empty chain
  root_case :
      (s : State K A) (e : Event K A) (k : K) → IsIn k (root_of cmp r s e)
      → (e ≡ Ask (caller_of e) k) × ((caller_at s.callers (caller_of e)).chain ≡ [])
  root_case s (Ask c j) k isin =
      let both = one (caller_at s.callers c).chain j isin in (ap (λ z. Ask c z) (sym both.0), both.1)
    where
      one : (l : List K) (j : K) → IsIn k (asked_on cmp r l j) → (k ≡ j) × (l ≡ [])
      one [] j (inl e) = (e, refl)
      one [] j (inr e) = absurd e
      one (x ∷ l) j h = absurd h
  root_case s (Publish c a) k isin = absurd isin
  root_case s (Look c) k isin = absurd isin
  root_case s (Abandon c) k isin = absurd isin

  abbrev IsCaredFor : ℕ → List (Event K A) → K → Type 0
  IsCaredFor n h k =
      IsSome (get cmp (replay cmp n h).published k) ⊎ ((i : ℕ) × IsIn k (line (get_or (replay cmp n h).callers i idle)))

  cared_old :
      (n : ℕ) (h : List (Event K A)) (e : Event K A) (k : K) → Standing cmp total r lawful n h → MayFollow cmp r n h e
      → ¬ (e ≡ Abandon (caller_of e)) → IsCaredFor n h k → IsCaredFor n (h ++ e ∷ []) k
  cared_old n h e k st m stays (inl p) = inl (kept_on cmp total r lawful n h e k st.sound m p)
  cared_old n h e k st m stays (inr q) =
      elim (same_or_apart q.0 (caller_of e - 1)) [
        | inr apart ↦ inr (q.0, subst (λ w. IsIn k (line w)) (sym (place_stays cmp n h e q.0 apart)) q.1)
        | inl same ↦ own (subst (λ j. IsIn k (line (get_or (replay cmp n h).callers j idle))) same q.1)
      ]
    where
      own : IsIn k (line (was cmp n h e)) → IsCaredFor n (h ++ e ∷ []) k
      own isin =
          elim (move cmp total r lawful n h e st m) [
            | Same is ↦ inr (caller_of e - 1, subst (IsIn k) (sym is) isin)
            | Grows j _ _ _ is ↦
                inr (
                  caller_of e - 1,
                  subst (IsIn k) (sym is)
                      (in_append_left k (line (was cmp n h e)) (j ∷ []) isin),
                )
            | Shrinks j is p ↦
                elim (in_append_cases k (line (later cmp n h e)) (j ∷ []) (subst (IsIn k) is isin)) [
                  | inl old ↦ inr (caller_of e - 1, old)
                  | inr new ↦ elim new [
                    | inl same ↦ inl (subst (λ z. IsSome (get cmp (replay cmp n (h ++ e ∷ [])).published z)) (sym same) p)
                    | inr none ↦ absurd none
                  ]
                ]
            | Clears abandon _ ↦ absurd (stays abandon)
          ]

  cared_new :
      (n : ℕ) (h : List (Event K A)) (e : Event K A) (k : K) → Standing cmp total r lawful n h → MayFollow cmp r n h e
      → e ≡ Ask (caller_of e) k → (was cmp n h e).chain ≡ [] → IsCaredFor n (h ++ e ∷ []) k
  cared_new n h e k st m ask none =
      elim (effect cmp r n h e m) [
        | Knows j asks _ _ _ p _ ↦
            inl (kept_on cmp total r lawful n h e k st.sound m
            (subst (λ z. IsSome (get cmp s.published z)) (key j asks) p))
        | Circles j y _ _ _ _ closes _ ↦
            (let q = closing_by cmp total lawful.one_key s.callers c j y closes in
            let f : None ≡ Some q.top = sym (ap last none) ∙ q.as_last in
            absurd (cc))
        | Claims j cause _ is ↦
            inr (
              c - 1,
              subst (λ w. IsIn k (line w)) (sym (now cmp total r lawful n h e _ _ m is))
                  (in_append_left k ((was cmp n h e).chain ++ j ∷ []) [] (ends j (cause_key j cause))),
            )
        | Waits j _ asks _ _ _ is ↦
            inr (c - 1, subst (λ w. IsIn k (line w)) (sym (now cmp total r lawful n h e _ _ m is)) (ends j (key j asks)))
        | Publishes _ a publish _ _ _ _ ↦ absurd (no_ask_publish e c c k a ask publish)
        | Stops _ look _ _ _ ↦ absurd (no_ask_look e c c k ask look)
        | Drops abandon _ ↦ absurd (no_ask_abandon e c c k ask abandon)
      ]
    where
      s : State K A
      s = replay cmp n h

      c : ℕ
      c = caller_of e

      key : (j : K) → e ≡ Ask (caller_of e) j → j ≡ k
      key j asks = same_key e (caller_of e) (caller_of e) j k asks ask

      cause_key : (j : K) → Cause cmp r n h e j → j ≡ k
      cause_key j (inl cause) = key j cause.0
      cause_key j (inr cause) = absurd (no_ask_look e (caller_of e) (caller_of e) k ask cause.0)

      ends : (j : K) → j ≡ k → IsIn k ((was cmp n h e).chain ++ j ∷ [])
      ends j same =
          subst (λ z. IsIn k ((was cmp n h e).chain ++ z ∷ [])) (sym same)
          (in_snoc (was cmp n h e).chain k)

  cared_for :
      (n : ℕ) (h : List (Event K A)) → Legal cmp r n h → HasNoAbandon cmp r h → (k : K) → IsIn k (roots cmp r n h)
      → IsCaredFor n h k
  cared_for n =
      always cmp r n (λ h. HasNoAbandon cmp r h → (k : K) → IsIn k (roots cmp r n h) → IsCaredFor n h k)
      (λ no_abandon k isin. absurd isin)
      (λ h e legal ih m no_abandon k isin.
      let st : Standing cmp total r lawful n h = standing cmp total r lawful n h legal in
      elim (in_append_cases k (roots cmp r n h) (root_of cmp r (replay cmp n h) e)
      (subst (IsIn k) (roots_snoc cmp r n h e) isin)) [
        | inl old ↦
            cared_old n h e k st m
            (λ abandon. no_abandon (caller_of e) (in_append_right (Abandon (caller_of e)) h (e ∷ []) (inl (sym abandon))))
            (ih (λ c i. no_abandon c (in_append_left (Abandon c) h (e ∷ []) i)) k old)
        | inr new ↦ (let q = root_case (replay cmp n h) e k new in cared_new n h e k st m q.0 q.1)
      ])

  -- without Abandons, once no work is left, each root is published
  pub ended :
      (n : ℕ) (h : List (Event K A)) → Legal cmp r n h → HasNoAbandon cmp r h → AreIdle (replay cmp n h).callers
      → ArePublished cmp r (replay cmp n h) (roots cmp r n h)
  ended n h legal no_abandon all k isin =
      elim (cared_for n h legal no_abandon k isin) [
        | inl p ↦ p
        | inr q ↦
            absurd (subst (λ (w : Caller K). IsIn k (line w))
            (at_number cmp total r lawful (replay cmp n h).callers q.0 ∙ all (q.0 + 1)) q.1)
      ]

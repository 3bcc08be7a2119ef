-- Each published pair is of a key and its answer, and each cycle that an Ask comes to is that of its key.
use Rattle.std.proofs.Common.{◌≡◌, ◌≢◌, ◌⊎◌, inl, inr, ℕ, ◌≤◌, List, [], ◌∷◌, ◌++◌, Some, None, IsSome, refl, sym, ◌∙◌, ap, subst}
use Rattle.std.specs.Cmp.{IsTotalOrder}
use Rattle.std.specs.List.{AllByRecursion}
use Rattle.std.specs.declared.cmp.Ordering.{Ordering}
use Rattle.def_query.specs.Cycle.{IsCycleOf}
use Rattle.def_query.specs.Lawful.{IsLawful}
use Rattle.def_query.specs.Map.{get, IsWithin}
use Rattle.def_query.specs.Meaning.{Meaning}
use Rattle.def_query.proofs.Maps.{within_cons}
use Rattle.def_core.specs.declared.event.Event.{Event}
use Rattle.def_core.specs.declared.event.Event.TheVariants.{Ask, Publish, Look, Abandon}
use Rattle.def_core.specs.declared.outcome.Outcome.TheVariants.{Known, Yours, Circle, Wait}
use Rattle.def_core.specs.State.{Caller, State, caller_at, last}
use Rattle.def_core.specs.Replay.{caller_of, outcome, after, replay}
use Rattle.def_core.specs.Legal.{MayAsk, MayFollow, IsNext, pair_of, told, top, Legal}
use Rattle.def_core.specs.Laws.{PublishedRight}
use Rattle.def_core.proofs.EventKinds.{same_key, no_ask_publish, no_ask_look, no_ask_abandon}
use Rattle.def_core.proofs.Histories.{replay_snoc, told_other, told_own, legal_front, always}
use Rattle.def_core.proofs.Lines.{same_or_apart, other_caller, is_there}
use Rattle.def_core.proofs.Tidy.{some_is}
use Rattle.def_core.proofs.Effects.{Knows, Circles, Claims, Waits, Publishes, Stops, Drops, effect}
use Rattle.def_core.proofs.Invariant.{Sound, Standing, Telling, sound_opening, sound_after, ask_depends}
use Rattle.def_core.proofs.Closing.{closing_by, last_claimed}
use Rattle.def_core.proofs.Circles.{circle_right}

module _ {K A : Type 0} (cmp : K → K → Ordering) (total : IsTotalOrder cmp) (r : Meaning K A)
    (lawful : IsLawful cmp r) where
  pub kept : (m n : List (K × A)) (k : K) → IsWithin cmp m n → IsSome (get cmp m k) → IsSome (get cmp n k)
  kept m n k w h = let a = some_is (get cmp m k) h in is_there (get cmp n k) a.0 (w k a.0 a.1)

  pub all_kept :
      (m n : List (K × A)) (l : List (K × A)) → IsWithin cmp m n
      → AllByRecursion (λ p. IsSome (get cmp m p.0)) l → AllByRecursion (λ p. IsSome (get cmp n p.0)) l
  all_kept m n [] w h = tt
  all_kept m n (p ∷ l) w h = (kept m n p.0 w h.0, all_kept m n l w h.1)

  -- what one caller does leaves the others as they are
  pub others_stay :
      (s : State K A) (e : Event K A) (c : ℕ) → 1 ≤ caller_of e → 1 ≤ c → caller_of e ≢ c
      → caller_at (after cmp s e).callers c ≡ caller_at s.callers c
  others_stay s (Ask d k) c l g apart = other_caller s.callers d c _ l g apart
  others_stay s (Publish d a) c l g apart = other_caller s.callers d c _ l g apart
  others_stay s (Look d) c l g apart = other_caller s.callers d c _ l g apart
  others_stay s (Abandon d) c l g apart = other_caller s.callers d c _ l g apart

  -- what is published stays
  pub published_stays :
      (n : ℕ) (h : List (Event K A)) (e : Event K A) → Sound cmp total r lawful (replay cmp n h) → MayFollow cmp r n h e
      → IsWithin cmp (replay cmp n h).published (after cmp (replay cmp n h) e).published
  published_stays n h e sound m =
      elim (effect cmp r n h e m) [
        | Knows _ _ _ _ _ _ is ↦ subst (λ t. IsWithin cmp s.published t.published) (sym is) (λ k a g. g)
        | Circles _ _ _ _ _ _ _ is ↦ subst (λ t. IsWithin cmp s.published t.published) (sym is) (λ k a g. g)
        | Claims _ _ _ is ↦ subst (λ t. IsWithin cmp s.published t.published) (sym is) (λ k a g. g)
        | Waits _ _ _ _ _ _ is ↦ subst (λ t. IsWithin cmp s.published t.published) (sym is) (λ k a g. g)
        | Publishes t a _ _ is_last _ is ↦
            subst (λ t. IsWithin cmp s.published t.published) (sym is)
            (within_cons cmp total lawful.one_key t a s.published
            (sound.tidy.unpublished t
            (last_claimed s.callers (caller_of e) t is_last)))
        | Stops _ _ _ _ is ↦ subst (λ t. IsWithin cmp s.published t.published) (sym is) (λ k a g. g)
        | Drops _ is ↦ subst (λ t. IsWithin cmp s.published t.published) (sym is) (λ k a g. g)
      ]
    where
      s : State K A
      s = replay cmp n h

  pair_yours : (e : Event K A) → pair_of cmp r e Yours ≡ []
  pair_yours (Ask c k) = refl
  pair_yours (Publish c a) = refl
  pair_yours (Look c) = refl
  pair_yours (Abandon c) = refl

  -- the last key of the chain, where an Ask would close a cycle, and what may be asked of it
  pub next_of :
      (n : ℕ) (h : List (Event K A)) (c : ℕ) (k t : K) → MayAsk cmp r n h c k (top cmp r n h c) → top cmp r n h c ≡ Some t
      → IsNext cmp r n h c t k
  next_of n h c k t m e = subst (MayAsk cmp r n h c k) e m

  abbrev Tells : ℕ → List (Event K A) → ℕ → Type 0
  Tells n h c = (told cmp r n h c ≡ []) ⊎ Telling cmp total r lawful n h c

  -- what a caller's own event tells
  tells_own :
      (n : ℕ) (h : List (Event K A)) (e : Event K A) → Standing cmp total r lawful n h → MayFollow cmp r n h e
      → Tells n (h ++ e ∷ []) (caller_of e)
  tells_own n h e st m =
      elim (effect cmp r n h e m) [
        | Knows k ask _ o _ _ _ ↦ inl (own ∙ (ap (pair_of cmp r e) o ∙ ap (λ x. pair_of cmp r x Known) ask))
        | Circles k y ask awake may o closes is ↦
            (let q = closing_by cmp total lawful.one_key s.callers c k y closes in
            let next : IsNext cmp r n h c q.top k = next_of n h c k q.top may q.as_last in
            let same : s ≡ replay cmp n (h ++ e ∷ []) = sym (replay_snoc cmp n h e ∙ is) in
            inr record {
              key = k;
              cycle = y;
              is = own ∙ (ap (pair_of cmp r e) o ∙ ap (λ x. pair_of cmp r x (Circle y)) ask);
              is_cycle =
                  circle_right cmp total r lawful s c k y st.sound closes
                  (λ t g. ask_depends cmp total r lawful n h c k t may g);
              final = q.top;
              is_last = subst (λ t. last (caller_at t.callers c).chain ≡ Some q.top) same q.as_last;
              depends = next.depends;
              earlier =
                  subst (λ t. AllByRecursion (λ p. IsSome (get cmp t.published p.0)) next.depends.earlier)
                  same next.earlier;
              awake = subst (λ t. (caller_at t.callers c).awaits ≡ None) same awake;
            })
        | Claims k _ o _ ↦ inl (own ∙ (ap (pair_of cmp r e) o ∙ pair_yours e))
        | Waits k w ask _ _ o _ ↦ inl (own ∙ (ap (pair_of cmp r e) o ∙ ap (λ x. pair_of cmp r x (Wait w)) ask))
        | Publishes t a publish _ _ _ _ ↦ inl (own ∙ ap (λ x. pair_of cmp r x (outcome cmp s e)) publish)
        | Stops k look _ _ _ ↦ inl (own ∙ ap (λ x. pair_of cmp r x (outcome cmp s e)) look)
        | Drops abandon _ ↦ inl (own ∙ ap (λ x. pair_of cmp r x (outcome cmp s e)) abandon)
      ]
    where
      s : State K A
      s = replay cmp n h

      c : ℕ
      c = caller_of e

      own : told cmp r n (h ++ e ∷ []) (caller_of e) ≡ pair_of cmp r e (outcome cmp (replay cmp n h) e)
      own = told_own cmp r n h e (caller_of e) refl

  -- what was told another caller stays
  tells_other :
      (n : ℕ) (h : List (Event K A)) (e : Event K A) (c : ℕ) → Sound cmp total r lawful (replay cmp n h)
      → MayFollow cmp r n h e
      → 1 ≤ c → caller_of e ≢ c → Telling cmp total r lawful n h c → Telling cmp total r lawful n (h ++ e ∷ []) c
  tells_other n h e c sound m l apart t =
      let s : State K A = replay cmp n h in
      let same : caller_at s.callers c ≡ caller_at (replay cmp n (h ++ e ∷ [])).callers c =
      sym (ap (λ q. caller_at q.callers c) (replay_snoc cmp n h e) ∙ others_stay s e c m.fits.least l apart) in
      record {
        key = t.key;
        cycle = t.cycle;
        is = told_other cmp r n h e c apart ∙ t.is;
        is_cycle = t.is_cycle;
        final = t.final;
        is_last = subst (λ (w : Caller K). last w.chain ≡ Some t.final) same t.is_last;
        depends = t.depends;
        earlier =
            subst (λ q. AllByRecursion (λ p. IsSome (get cmp q.published p.0)) t.depends.earlier)
            (sym (replay_snoc cmp n h e))
            (all_kept s.published (after cmp s e).published t.depends.earlier (published_stays n h e sound m) t.earlier);
        awake = subst (λ (w : Caller K). w.awaits ≡ None) same t.awake;
      }

  standing_after :
      (n : ℕ) (h : List (Event K A)) (e : Event K A) → Standing cmp total r lawful n h → MayFollow cmp r n h e
      → Standing cmp total r lawful n (h ++ e ∷ [])
  standing_after n h e st m = record {
    sound = subst (Sound cmp total r lawful) (sym (replay_snoc cmp n h e)) (sound_after cmp total r lawful n h e st m);
    tells = λ c l.
        elim (same_or_apart (caller_of e) c) [
          | inl same ↦ subst (Tells n (h ++ e ∷ [])) same (tells_own n h e st m)
          | inr apart ↦ elim (st.tells c l) [
            | inl none ↦ inl (told_other cmp r n h e c apart ∙ none)
            | inr t ↦ inr (tells_other n h e c st.sound m l apart t)
          ]
        ];
  }

  -- the invariant of legal histories
  pub standing : (n : ℕ) (h : List (Event K A)) → Legal cmp r n h → Standing cmp total r lawful n h
  standing n =
      always cmp r n (Standing cmp total r lawful n)
      record { sound = sound_opening cmp total r lawful n; tells = λ c l. inl refl }
      (λ h e _ st m. standing_after n h e st m)

  circles_right :
      (n : ℕ) (before : List (Event K A)) (c : ℕ) (k : K) (y : List K) → Standing cmp total r lawful n before
      → MayFollow cmp r n before (Ask c k) → outcome cmp (replay cmp n before) (Ask c k) ≡ Circle y → IsCycleOf cmp r k y
  circles_right n before c k y st m o =
      elim (effect cmp r n before (Ask c k) m) [
        | Knows _ _ _ p _ _ _ ↦ absurd (other (sym p ∙ o))
        | Circles j z ask _ may p closes _ ↦
            (let f : Circle z ≡ Circle y = sym p ∙ o in
            let g : z ≡ y = cc in
            let q : j ≡ k = same_key (Ask c k) c c j k ask refl in
            subst (λ x. IsCycleOf cmp r x y) q
            (subst (IsCycleOf cmp r j) g
            (circle_right cmp total r lawful (replay cmp n before) c j z st.sound closes
            (λ t u. ask_depends cmp total r lawful n before c j t may u))))
        | Claims _ _ p _ ↦ absurd (yours (sym p ∙ o))
        | Waits _ w _ _ _ p _ ↦ absurd (waits w (sym p ∙ o))
        | Publishes _ a publish _ _ _ _ ↦ absurd (no_ask_publish (Ask c k) c c k a refl publish)
        | Stops _ look _ _ _ ↦ absurd (no_ask_look (Ask c k) c c k refl look)
        | Drops abandon _ ↦ absurd (no_ask_abandon (Ask c k) c c k refl abandon)
      ]
    where
      other : Known ≡ Circle y → ⊥
      other e = cc

      yours : Yours ≡ Circle y → ⊥
      yours e = cc

      waits : (w : ℕ) → Wait w ≡ Circle y → ⊥
      waits w e = cc

  pub published_right : PublishedRight cmp r
  published_right n h legal = record {
    answers = (standing n h legal).sound.correct;
    cycles = λ before behind c k y is o.
        let l = legal_front cmp r n before (Ask c k ∷ behind) (subst (Legal cmp r n) is legal) in
        circles_right n before c k y (standing n before l) (legal before (Ask c k) behind is) o;
  }

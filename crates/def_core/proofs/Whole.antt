-- Where each root is published, all that lies under the roots is published: a key that was told with a cycle
-- too, since whoever publishes the root of the chain that claimed it comes by it again.
use Rattle.std.proofs.Common.{◌≡◌, ◌≢◌, ◌⊎◌, inl, inr, ℕ, zero, suc, ◌+◌, ◌-◌, ◌<◌, ◌≤◌, List, [], ◌∷◌, ◌++◌, length, get_or, Some, None, IsSome, option_to_list, refl, sym, ◌∙◌, ap, subst, arith}
use Rattle.std.specs.Cmp.{IsTotalOrder}
use Rattle.std.specs.declared.cmp.Ordering.{Ordering}
use Rattle.def_query.specs.Keys.{IsIn, AreDistinct, IsWalk}
use Rattle.def_query.specs.Lawful.{IsLawful}
use Rattle.def_query.specs.Map.{get}
use Rattle.def_query.specs.Meaning.{Meaning}
use Rattle.def_query.specs.Settles.{Depends}
use Rattle.def_query.specs.declared.step.Step.TheVariants.{Done}
use Rattle.def_query.proofs.Walks.{in_append_left, in_append_right, in_append_cases, path_front}
use Rattle.def_query.proofs.Maps.{get_cases}
use Rattle.def_query.proofs.Correct.{done_closed}
use Rattle.def_core.specs.declared.event.Event.{Event}
use Rattle.def_core.specs.declared.event.Event.TheVariants.{Ask, Publish, Look, Abandon}
use Rattle.def_core.specs.declared.outcome.Outcome.{Outcome}
use Rattle.def_core.specs.declared.outcome.Outcome.TheVariants.{Known, Yours, Circle, Wait, Published, Abandoned}
use Rattle.def_core.specs.State.{Caller, State, opening, caller_at, idle, claimed, last}
use Rattle.def_core.specs.Needs.{closing}
use Rattle.def_core.specs.Replay.{caller_of, outcome, after, replay}
use Rattle.def_core.specs.Legal.{MayFollow, pair_of, told, top, Legal}
use Rattle.def_core.specs.Laws.{IsUnder, ArePublished}
use Rattle.def_core.proofs.RootKeys.{root_of, roots_from, roots}
use Rattle.def_core.proofs.Lists.{append_nil, append_more, length_more, last_in}
use Rattle.def_core.proofs.Chains.{claimed_holds, one_holder, chain_distinct}
use Rattle.def_core.proofs.Paths.{path_is, path_claimed}
use Rattle.def_core.proofs.EventKinds.{same_key, no_ask_publish, no_ask_look, no_ask_abandon}
use Rattle.def_core.proofs.Histories.{grown, parts, InFront, InBack, split, Within, AtEnd, no_mid, replay_snoc, told_other, told_own, legal_front, legal_last, always}
use Rattle.def_core.proofs.Lines.{same_or_apart, is_there, Follows, follows_in, follows_path, in_range}
use Rattle.def_core.proofs.Tidy.{some_is}
use Rattle.def_core.proofs.Effects.{Knows, Circles, Claims, Waits, Publishes, Stops, Drops, effect}
use Rattle.def_core.proofs.Invariant.{Standing, told_correct}
use Rattle.def_core.proofs.Closing.{closing_by, last_claimed, chain_claimed}
use Rattle.def_core.proofs.PublishedRight.{others_stay, standing}
use Rattle.def_core.proofs.Asked.{last_alone}
use Rattle.def_core.proofs.Unmoved.{AreOfOthers, as_before}
use Rattle.def_core.proofs.LineMoves.{Nothing, One, gain, kept_over}
use Rattle.def_core.proofs.Roots.{rooted}

module _ {X : Type 0} where
  -- what goes from each element of a list to the next holds of all, where it holds of the first
  along :
      (P : X → Type 0) (x : X) (xs : List X) → ((y z : X) → Follows (x ∷ xs) y z → P y → P z) → P x
      → (z : X) → IsIn z (x ∷ xs) → P z
  along P x xs f p z (inl e) = subst P (sym e) p
  along P x [] f p z (inr h) = absurd h
  along P x (y ∷ ys) f p z (inr h) =
      along P y ys
      (λ v w g. f v w record { before = x ∷ g.before; behind = g.behind; is = ap (λ l. x ∷ l) g.is })
      (f x y record { before = []; behind = ys; is = refl } p) z h

  starts : (l : List X) (z : X) → IsIn z l → (x : X) × (xs : List X) × (l ≡ x ∷ xs)
  starts [] z h = absurd h
  starts (x ∷ xs) z h = (x, xs, refl)

module _ {K A : Type 0} (cmp : K → K → Ordering) (total : IsTotalOrder cmp) (r : Meaning K A)
    (lawful : IsLawful cmp r) where
  -- an event of g after h publishes the key
  record PublishedIn (n : ℕ) (h g : List (Event K A)) (k : K) : Type 0 where
    more : List (Event K A)
    event : Event K A
    behind : List (Event K A)
    answer : A
    is : g ≡ more ++ event ∷ behind
    is_top : top cmp r n (h ++ more) (caller_of event) ≡ Some k
    done : r.body k (told cmp r n (h ++ more) (caller_of event) ++ (replay cmp n (h ++ more)).published) ≡ Done answer

  in_longer :
      (n : ℕ) (h mid : List (Event K A)) (e : Event K A) (k : K) → PublishedIn n h mid k
      → PublishedIn n h (mid ++ e ∷ []) k
  in_longer n h mid e k q = record {
    more = q.more;
    event = q.event;
    behind = q.behind ++ e ∷ [];
    answer = q.answer;
    is = ap (λ w. w ++ e ∷ []) q.is ∙ append_more q.more (q.event ∷ q.behind) (e ∷ []);
    is_top = q.is_top;
    done = q.done;
  }

  published_in :
      (n : ℕ) (h g : List (Event K A)) (k : K) → Legal cmp r n (h ++ g) → get cmp (replay cmp n h).published k ≡ None
      → IsSome (get cmp (replay cmp n (h ++ g)).published k) → PublishedIn n h g k
  published_in n h g k legal lacks =
      grown (λ mid. Legal cmp r n (h ++ mid) → IsSome (get cmp (replay cmp n (h ++ mid)).published k)
      → PublishedIn n h mid k)
      (λ l p.
      let a =
      some_is (get cmp (replay cmp n h).published k)
      (subst (λ q. IsSome (get cmp (replay cmp n q).published k)) (append_nil h) p) in
      let f : Some a.0 ≡ None = sym a.1 ∙ lacks in
      absurd (cc))
      step g legal
    where
      step :
          (mid : List (Event K A)) (e : Event K A)
          → (Legal cmp r n (h ++ mid) → IsSome (get cmp (replay cmp n (h ++ mid)).published k) → PublishedIn n h mid k)
          → Legal cmp r n (h ++ (mid ++ e ∷ [])) → IsSome (get cmp (replay cmp n (h ++ (mid ++ e ∷ []))).published k)
          → PublishedIn n h (mid ++ e ∷ []) k
      step mid e ih l p =
          let joined : h ++ (mid ++ e ∷ []) ≡ (h ++ mid) ++ e ∷ [] = sym (append_more h mid (e ∷ [])) in
          let l' : Legal cmp r n ((h ++ mid) ++ e ∷ []) = subst (Legal cmp r n) joined l in
          let f : Legal cmp r n (h ++ mid) = legal_front cmp r n (h ++ mid) (e ∷ []) l' in
          let p' : IsSome (get cmp (replay cmp n ((h ++ mid) ++ e ∷ [])).published k) =
          subst (λ q. IsSome (get cmp (replay cmp n q).published k)) joined p in
          elim (gain cmp total r lawful n (h ++ mid) e (standing cmp total r lawful n (h ++ mid) f)
          (legal_last cmp r n (h ++ mid) e l')) [
            | Nothing is ↦ in_longer n h mid e k (ih f (subst (λ q. IsSome (get cmp q k)) is p'))
            | One t a _ is_top may is ↦
                (let b = some_is (get cmp ((t, a) ∷ (replay cmp n (h ++ mid)).published) k)
                (subst (λ q. IsSome (get cmp q k)) is p') in
                elim (get_cases cmp total lawful.one_key t k a b.0 (replay cmp n (h ++ mid)).published b.1) [
                  | inl here ↦ record {
                    more = mid;
                    event = e;
                    behind = [];
                    answer = a;
                    is = refl;
                    is_top = is_top ∙ ap Some (sym here.0);
                    done =
                        subst (λ z. r.body z
                        (told cmp r n (h ++ mid) (caller_of e) ++ (replay cmp n (h ++ mid)).published) ≡ Done a)
                        (sym here.0) may;
                  }
                  | inr old ↦
                      in_longer n h mid e k (ih f (is_there (get cmp (replay cmp n (h ++ mid)).published k) b.0 old))
                ])
          ]

  -- the Ask by which the caller was told the key, after which it has done nothing
  record ToldAt (n : ℕ) (h : List (Event K A)) (c : ℕ) (k : K) : Type 0 where
    before : List (Event K A)
    behind : List (Event K A)
    is : h ≡ before ++ Ask c k ∷ behind
    others : AreOfOthers cmp c behind
    cycle : List K
    closes : closing cmp (replay cmp n before).callers c k ≡ Some cycle
    caller : caller_at (replay cmp n h).callers c ≡ caller_at (replay cmp n before).callers c

  pair_ask :
      (e : Event K A) (o : Outcome (List K)) (k : K) (a : A) → pair_of cmp r e o ≡ (k, a) ∷ []
      → (e ≡ Ask (caller_of e) k) × ((y : List K) × (o ≡ Circle y))
  pair_ask (Ask c j) (Circle y) k a e =
      let f : (j, r.circular y) ∷ [] ≡ (k, a) ∷ [] = e in
      let g : j ≡ k = ap (λ (l : List (K × A)). head l) f in
      (ap (λ z. Ask c z) g, (y, refl))
    where
      head : List (K × A) → K
      head [] = j
      head (p ∷ l) = p.0
  pair_ask (Ask c j) Known k a e = absurd (let f : [] ≡ (k, a) ∷ [] = e in cc)
  pair_ask (Ask c j) Yours k a e = absurd (let f : [] ≡ (k, a) ∷ [] = e in cc)
  pair_ask (Ask c j) (Wait w) k a e = absurd (let f : [] ≡ (k, a) ∷ [] = e in cc)
  pair_ask (Ask c j) Published k a e = absurd (let f : [] ≡ (k, a) ∷ [] = e in cc)
  pair_ask (Ask c j) Abandoned k a e = absurd (let f : [] ≡ (k, a) ∷ [] = e in cc)
  pair_ask (Publish c b) o k a e = absurd (let f : [] ≡ (k, a) ∷ [] = e in cc)
  pair_ask (Look c) o k a e = absurd (let f : [] ≡ (k, a) ∷ [] = e in cc)
  pair_ask (Abandon c) o k a e = absurd (let f : [] ≡ (k, a) ∷ [] = e in cc)

  -- an Ask that comes to a cycle
  circle_of :
      (n : ℕ) (h : List (Event K A)) (e : Event K A) (k : K) (y : List K) → Standing cmp total r lawful n h
      → MayFollow cmp r n h e
      → e ≡ Ask (caller_of e) k → outcome cmp (replay cmp n h) e ≡ Circle y
      → ((z : List K) × (closing cmp (replay cmp n h).callers (caller_of e) k ≡ Some z))
      × (after cmp (replay cmp n h) e ≡ replay cmp n h)
  circle_of n h e k y st m ask o =
      elim (effect cmp r n h e m) [
        | Knows _ _ _ p _ _ _ ↦ absurd (known (sym p ∙ o))
        | Circles j z asks _ _ _ closes is ↦ (
          (
            z,
            subst (λ q. closing cmp (replay cmp n h).callers (caller_of e) q ≡ Some z)
                (same_key e (caller_of e) (caller_of e) j k asks ask) closes,
          ),
          is,
        )
        | Claims _ _ p _ ↦ absurd (yours (sym p ∙ o))
        | Waits _ w _ _ _ p _ ↦ absurd (waits w (sym p ∙ o))
        | Publishes _ a publish _ _ _ _ ↦ absurd (no_ask_publish e (caller_of e) (caller_of e) k a ask publish)
        | Stops _ look _ _ _ ↦ absurd (no_ask_look e (caller_of e) (caller_of e) k ask look)
        | Drops abandon _ ↦ absurd (no_ask_abandon e (caller_of e) (caller_of e) k ask abandon)
      ]
    where
      known : Known ≡ Circle y → ⊥
      known f = cc

      yours : Yours ≡ Circle y → ⊥
      yours f = cc

      waits : (w : ℕ) → Wait w ≡ Circle y → ⊥
      waits w f = cc

  told_now :
      (n : ℕ) (h : List (Event K A)) (e : Event K A) (k : K) (a : A) → Standing cmp total r lawful n h
      → MayFollow cmp r n h e
      → told cmp r n (h ++ e ∷ []) (caller_of e) ≡ (k, a) ∷ [] → ToldAt n (h ++ e ∷ []) (caller_of e) k
  told_now n h e k a st m tells =
      let p = pair_ask e (outcome cmp (replay cmp n h) e) k a (sym (told_own cmp r n h e (caller_of e) refl) ∙ tells) in
      let q = circle_of n h e k p.1.0 st m p.0 p.1.1 in
      record {
        before = h;
        behind = [];
        is = ap (λ x. h ++ x ∷ []) p.0;
        others = λ more x bh s. absurd (no_mid more x bh s);
        cycle = q.0.0;
        closes = q.0.1;
        caller = ap (λ s. caller_at s.callers (caller_of e)) (replay_snoc cmp n h e ∙ q.1);
      }

  told_before :
      (n : ℕ) (h : List (Event K A)) (e : Event K A) (c : ℕ) (k : K) → MayFollow cmp r n h e → 1 ≤ c → caller_of e ≢ c
      → ToldAt n h c k → ToldAt n (h ++ e ∷ []) c k
  told_before n h e c k m l apart t = record {
    before = t.before;
    behind = t.behind ++ e ∷ [];
    is = ap (λ w. w ++ e ∷ []) t.is ∙ append_more t.before (Ask c k ∷ t.behind) (e ∷ []);
    others = λ more x bh s.
        elim (split t.behind e more x bh s) [
          | Within rest _ j ↦ t.others more x rest j
          | AtEnd _ _ same ↦ (λ f. apart (ap caller_of (sym same) ∙ f))
        ];
    cycle = t.cycle;
    closes = t.closes;
    caller =
        ap (λ s. caller_at s.callers c) (replay_snoc cmp n h e)
        ∙ (others_stay cmp total r lawful (replay cmp n h) e c m.fits.least l apart ∙ t.caller);
  }

  told_at :
      (n : ℕ) (c : ℕ) → 1 ≤ c → (h : List (Event K A)) → Legal cmp r n h → (k : K) (a : A)
      → told cmp r n h c ≡ (k, a) ∷ [] → ToldAt n h c k
  told_at n c l =
      always cmp r n (λ h. (k : K) (a : A) → told cmp r n h c ≡ (k, a) ∷ [] → ToldAt n h c k)
      (λ k a e. absurd (let f : [] ≡ (k, a) ∷ [] = e in cc))
      (λ h e legal ih m k a tells.
      elim (same_or_apart (caller_of e) c) [
        | inl same ↦
            subst (λ d. ToldAt n (h ++ e ∷ []) d k) same
            (told_now n h e k a (standing cmp total r lawful n h legal) m
            (subst (λ d. told cmp r n (h ++ e ∷ []) d ≡ (k, a) ∷ []) (sym same) tells))
        | inr apart ↦ told_before n h e c k m l apart (ih k a (sym (told_other cmp r n h e c apart) ∙ tells))
      ])

  -- the key z is published in g, by a caller that was told y as a part of a cycle
  record Pending (n : ℕ) (h g : List (Event K A)) (z y : K) : Type 0 where
    more : List (Event K A)
    event : Event K A
    behind : List (Event K A)
    caller : ℕ
    least : 1 ≤ caller
    is : g ≡ more ++ event ∷ behind
    is_top : top cmp r n (h ++ more) caller ≡ Some z
    told_at : ToldAt n (h ++ more) caller y

  -- what a key depends on that is published in g is published at the end, or its caller was told it
  published_needs :
      (n : ℕ) (h g : List (Event K A)) (z y : K) → Legal cmp r n (h ++ g) → get cmp (replay cmp n h).published z ≡ None
      → IsSome (get cmp (replay cmp n (h ++ g)).published z) → Depends cmp r z y
      → IsSome (get cmp (replay cmp n (h ++ g)).published y) ⊎ Pending n h g z y
  published_needs n h g z y legal lacks ends d =
      elim (st.tells c m.fits.least) [
        | inl none ↦ inl (kept_to (subst (λ w. get cmp (w ++ (replay cmp n front).published) y ≡ Some b.0) none b.1))
        | inr t ↦ elim (get_cases cmp total lawful.one_key t.key y (r.circular t.cycle) b.0 (replay cmp n front).published
            (subst (λ w. get cmp (w ++ (replay cmp n front).published) y ≡ Some b.0) t.is b.1)) [
              | inr got ↦ inl (kept_to got)
              | inl same ↦ inr record {
                more = p.more;
                event = p.event;
                behind = p.behind;
                caller = c;
                least = m.fits.least;
                is = p.is;
                is_top = p.is_top;
                told_at =
                    subst (ToldAt n front c) (sym same.0)
                    (told_at n c m.fits.least front l t.key (r.circular t.cycle) t.is);
              }
            ]
      ]
    where
      p : PublishedIn n h g z
      p = published_in n h g z legal lacks ends

      front : List (Event K A)
      front = h ++ p.more

      c : ℕ
      c = caller_of p.event

      whole : h ++ g ≡ front ++ p.event ∷ p.behind
      whole = ap (λ w. h ++ w) p.is ∙ sym (append_more h p.more (p.event ∷ p.behind))

      legal' : Legal cmp r n (front ++ p.event ∷ p.behind)
      legal' = subst (Legal cmp r n) whole legal

      l : Legal cmp r n front
      l = legal_front cmp r n front (p.event ∷ p.behind) legal'

      m : MayFollow cmp r n front p.event
      m = legal front p.event p.behind whole

      st : Standing cmp total r lawful n front
      st = standing cmp total r lawful n front l

      b : (a : A) × (get cmp (told cmp r n front c ++ (replay cmp n front).published) y ≡ Some a)
      b =
          done_closed cmp total r lawful z y (told cmp r n front c ++ (replay cmp n front).published) p.answer
          (told_correct cmp total r lawful n front c st m.fits.least) p.done d

      kept_to :
          {a : A} → get cmp (replay cmp n front).published y ≡ Some a
          → IsSome (get cmp (replay cmp n (h ++ g)).published y)
      kept_to e =
          subst (λ q. IsSome (get cmp (replay cmp n q).published y)) (sym whole)
          (kept_over cmp total r lawful n front (p.event ∷ p.behind) y legal'
          (is_there (get cmp (replay cmp n front).published y) _ e))

  -- the last key of a chain does not stand before another one in a chain
  top_alone :
      (n : ℕ) (h : List (Event K A)) (c i : ℕ) (z y : K) → Legal cmp r n h → top cmp r n h c ≡ Some z
      → Follows (get_or (replay cmp n h).callers i idle).chain z y → ⊥
  top_alone n h c i z y legal is_top f =
      let s : State K A = replay cmp n h in
      let d : AreDistinct (claimed s.callers) = (standing cmp total r lawful n h legal).sound.tidy.distinct in
      let z_in : IsIn z (get_or s.callers i idle).chain = follows_in (get_or s.callers i idle).chain z y f in
      let z_last : IsIn z (caller_at s.callers c).chain = last_in (caller_at s.callers c).chain z is_top in
      let same : i ≡ c - 1 =
      one_holder s.callers i (c - 1) z d
      record { within = in_range s.callers i z z_in; has = z_in }
      record { within = in_range s.callers (c - 1) z z_last; has = z_last } in
      last_alone (caller_at s.callers c).chain z y (chain_distinct s.callers (c - 1) d) is_top
      (subst (λ j. Follows (get_or s.callers j idle).chain z y) same f)

  -- a later Ask of the history g that came to a cycle
  record LaterCircle (n : ℕ) (h g : List (Event K A)) (y : K) : Type 0 where
    first : Event K A
    more : List (Event K A)
    caller : ℕ
    behind : List (Event K A)
    is : g ≡ (first ∷ more) ++ Ask caller y ∷ behind
    cycle : List K
    closes : closing cmp (replay cmp n (h ++ first ∷ more)).callers caller y ≡ Some cycle

  -- where a chain has z before y after h, and z is published in g by a caller that was told y, it was told so
  -- in g
  told_later :
      (n : ℕ) (h g : List (Event K A)) (i : ℕ) (z y : K) → Legal cmp r n (h ++ g)
      → Follows (get_or (replay cmp n h).callers i idle).chain z y → Pending n h g z y → LaterCircle n h g y
  told_later n h g i z y legal f p =
      elim (parts h p.more t.before (Ask p.caller y) t.behind t.is) [
        | InFront rest i0 j0 ↦ absurd (top_alone n h p.caller i z y l (in_front rest i0) f)
        | InBack more i0 j0 ↦ in_back more i0 j0
      ]
    where
      t : ToldAt n (h ++ p.more) p.caller y
      t = p.told_at

      l : Legal cmp r n h
      l = legal_front cmp r n h g legal

      whole : h ++ g ≡ (h ++ p.more) ++ p.event ∷ p.behind
      whole = ap (λ w. h ++ w) p.is ∙ sym (append_more h p.more (p.event ∷ p.behind))

      l' : Legal cmp r n (h ++ p.more)
      l' = legal_front cmp r n (h ++ p.more) (p.event ∷ p.behind) (subst (Legal cmp r n) whole legal)

      in_front : (rest : List (Event K A)) → t.behind ≡ rest ++ p.more → top cmp r n h p.caller ≡ Some z
      in_front rest is =
          let others : AreOfOthers cmp p.caller p.more =
          λ more x bh s. t.others (rest ++ more) x bh
          (is ∙ (ap (λ w. rest ++ w) s ∙ sym (append_more rest more (x ∷ bh)))) in
          ap (λ (w : Caller K). last w.chain)
          (sym (as_before cmp total r lawful n h p.more p.caller l' p.least others).caller) ∙ p.is_top

      at_before : top cmp r n t.before p.caller ≡ Some z
      at_before = ap (λ (w : Caller K). last w.chain) (sym t.caller) ∙ p.is_top

      in_back :
          (more : List (Event K A)) → p.more ≡ more ++ Ask p.caller y ∷ t.behind → t.before ≡ h ++ more
          → LaterCircle n h g y
      in_back [] is at =
          absurd (top_alone n h p.caller i z y l
          (subst (λ q. top cmp r n q p.caller ≡ Some z) (at ∙ append_nil h) at_before) f)
      in_back (x ∷ more) is at = record {
        first = x;
        more = more;
        caller = p.caller;
        behind = t.behind ++ p.event ∷ p.behind;
        is =
            p.is ∙ (ap (λ w. w ++ p.event ∷ p.behind) is
            ∙ append_more (x ∷ more) (Ask p.caller y ∷ t.behind) (p.event ∷ p.behind));
        cycle = t.cycle;
        closes = subst (λ q. closing cmp (replay cmp n q).callers p.caller y ≡ Some t.cycle) at t.closes;
      }

  roots_over :
      (s : State K A) (h g : List (Event K A)) (k : K) → IsIn k (roots_from cmp r s h)
      → IsIn k (roots_from cmp r s (h ++ g))
  roots_over s [] g k isin = absurd isin
  roots_over s (e ∷ h) g k isin =
      elim (in_append_cases k (root_of cmp r s e) (roots_from cmp r (after cmp s e) h) isin) [
        | inl i ↦ in_append_left k (root_of cmp r s e) (roots_from cmp r (after cmp s e) (h ++ g)) i
        | inr i ↦
            in_append_right k (root_of cmp r s e) (roots_from cmp r (after cmp s e) (h ++ g))
            (roots_over (after cmp s e) h g k i)
      ]

  -- the key of an Ask that came to a cycle is claimed
  circle_claimed :
      (n : ℕ) (h : List (Event K A)) (c : ℕ) (k : K) (y : List K) → closing cmp (replay cmp n h).callers c k ≡ Some y
      → IsIn k (claimed (replay cmp n h).callers)
  circle_claimed n h c k y e =
      let s : State K A = replay cmp n h in
      let q = closing_by cmp total lawful.one_key s.callers c k y e in
      let p = path_is cmp total lawful.one_key s.callers (length (claimed s.callers)) k q.top q.keys q.found in
      path_claimed cmp total lawful.one_key s.callers (length (claimed s.callers)) k q.top q.keys
      (last_claimed s.callers c q.top q.as_last)
      q.found k (subst (IsIn k) (sym p.is) (inl refl))

  -- where each root is published at the end, so is the key of each Ask that came to a cycle
  circle_published :
      (fuel n : ℕ) (h g : List (Event K A)) (c : ℕ) (k : K) (y : List K) → length g < fuel → Legal cmp r n (h ++ g)
      → ArePublished cmp r (replay cmp n (h ++ g)) (roots cmp r n (h ++ g))
      → closing cmp (replay cmp n h).callers c k ≡ Some y → IsSome (get cmp (replay cmp n (h ++ g)).published k)
  circle_published zero n h g c k y less legal all closes = absurd (omega arith)
  circle_published (suc fuel) n h g c k y less legal all closes =
      let s : State K A = replay cmp n h in
      let l : Legal cmp r n h = legal_front cmp r n h g legal in
      let st : Standing cmp total r lawful n h = standing cmp total r lawful n h l in
      let b = claimed_holds s.callers k (circle_claimed n h c k y closes) in
      let w : Caller K = get_or s.callers b.0 idle in
      let start = starts w.chain k b.1.has in
      let root : IsIn start.0 (roots cmp r n h) =
      (rooted cmp total r lawful n h l).heads b.0 start.0 (start.1 ++ option_to_list w.awaits)
      (ap (λ q. q ++ option_to_list w.awaits) start.2) in
      along (λ z. IsSome (get cmp (replay cmp n (h ++ g)).published z)) start.0 start.1
      (λ z x follows ends.
      let f : Follows w.chain z x = subst (λ q. Follows q z x) (sym start.2) follows in
      let lacks : get cmp s.published z ≡ None =
      st.sound.tidy.unpublished z
      (chain_claimed s.callers b.0 z (follows_in w.chain z x f)) in
      let d : Depends cmp r z x =
      follows_path (Depends cmp r) w.chain z x
      (path_front (Depends cmp r) w.chain (option_to_list w.awaits) (st.sound.paths b.0)) f in
      elim (published_needs n h g z x legal lacks ends d) [
        | inl done ↦ done
        | inr pending ↦
            (let q : LaterCircle n h g x = told_later n h g b.0 z x legal f pending in
            let whole : h ++ g ≡ (h ++ q.first ∷ q.more) ++ Ask q.caller x ∷ q.behind =
            ap (λ v. h ++ v) q.is ∙ sym (append_more h (q.first ∷ q.more) (Ask q.caller x ∷ q.behind)) in
            let longer : length g ≡ suc (length q.more + suc (length q.behind)) =
            ap length q.is ∙ ap suc (length_more q.more (Ask q.caller x ∷ q.behind)) in
            subst (λ v. IsSome (get cmp (replay cmp n v).published x)) (sym whole)
            (circle_published fuel n (h ++ q.first ∷ q.more) (Ask q.caller x ∷ q.behind) q.caller x q.cycle
            (let e : length (Ask q.caller x ∷ q.behind) ≡ suc (length q.behind) = refl in omega arith)
            (subst (Legal cmp r n) whole legal)
            (subst (λ v. ArePublished cmp r (replay cmp n v) (roots cmp r n v)) whole all)
            q.closes))
      ])
      (all start.0 (roots_over (opening n) h g start.0 root))
      k (subst (IsIn k) start.2 b.1.has)

  -- then what a published key depends on is published
  closed :
      (n : ℕ) (h : List (Event K A)) (z y : K) → Legal cmp r n h → ArePublished cmp r (replay cmp n h) (roots cmp r n h)
      → IsSome (get cmp (replay cmp n h).published z) → Depends cmp r z y → IsSome (get cmp (replay cmp n h).published y)
  closed n h z y legal all ends d =
      elim (published_needs n [] h z y legal refl ends d) [
        | inl done ↦ done
        | inr p ↦
            (let t : ToldAt n p.more p.caller y = p.told_at in
            let whole : h ≡ t.before ++ Ask p.caller y ∷ (t.behind ++ p.event ∷ p.behind) =
            p.is ∙ (ap (λ w. w ++ p.event ∷ p.behind) t.is
            ∙ append_more t.before (Ask p.caller y ∷ t.behind) (p.event ∷ p.behind)) in
            let g : List (Event K A) = Ask p.caller y ∷ (t.behind ++ p.event ∷ p.behind) in
            subst (λ v. IsSome (get cmp (replay cmp n v).published y)) (sym whole)
            (circle_published (suc (length g)) n t.before g p.caller y t.cycle (omega arith)
            (subst (Legal cmp r n) whole legal)
            (subst (λ v. ArePublished cmp r (replay cmp n v) (roots cmp r n v)) whole all)
            t.closes))
      ]

  -- where each root is published, all that lies under the roots is
  pub whole :
      (n : ℕ) (h : List (Event K A)) → Legal cmp r n h → ArePublished cmp r (replay cmp n h) (roots cmp r n h)
      → (k : K) → IsUnder cmp r (roots cmp r n h) k → IsSome (get cmp (replay cmp n h).published k)
  whole n h legal all k u =
      elim u.2 [
        | inl e ↦ subst (λ z. IsSome (get cmp (replay cmp n h).published z)) e (all u.0 u.1)
        | inr w ↦ go u.0 w.0 w.1 (all u.0 u.1)
      ]
    where
      go :
          (x : K) (zs : List K) → IsWalk (Depends cmp r) x (zs ++ k ∷ []) → IsSome (get cmp (replay cmp n h).published x)
          → IsSome (get cmp (replay cmp n h).published k)
      go x [] w p = closed n h x k legal all p w.0
      go x (z ∷ zs) w p = go z zs w.1 (closed n h x z legal all p w.0)

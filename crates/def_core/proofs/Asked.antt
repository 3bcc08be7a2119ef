-- What becomes of a key that was asked: it is published, or stands behind the key that asked it, or is told.
use Rattle.std.proofs.Common.{◌≡◌, ◌≢◌, inl, inr, ℕ, ◌-◌, ◌≤◌, List, [], ◌∷◌, ◌++◌, Some, None, IsSome, refl, sym, ◌∙◌, ap, subst}
use Rattle.std.specs.Cmp.{IsTotalOrder}
use Rattle.std.specs.declared.cmp.Ordering.{Ordering}
use Rattle.def_query.specs.Keys.{IsIn, AreDistinct}
use Rattle.def_query.specs.Lawful.{IsLawful}
use Rattle.def_query.specs.Map.{get}
use Rattle.def_query.specs.Meaning.{Meaning}
use Rattle.def_query.proofs.Walks.{distinct_apart, distinct_from}
use Rattle.def_query.proofs.Maps.{get_here}
use Rattle.def_core.specs.declared.event.Event.{Event}
use Rattle.def_core.specs.declared.event.Event.TheVariants.{Ask}
use Rattle.def_core.specs.State.{Caller, State, caller_at, with_caller, last, without_last}
use Rattle.def_core.specs.Replay.{caller_of, after, replay}
use Rattle.def_core.specs.Legal.{MayAsk, MayFollow, IsNext, HasAsked, pair_of, told, top, Legal}
use Rattle.def_core.proofs.Lists.{append_nil, append_more, last_in, last_some}
use Rattle.def_core.proofs.Chains.{chain_distinct}
use Rattle.def_core.proofs.EventKinds.{same_key, no_ask_publish, no_ask_look, no_ask_abandon}
use Rattle.def_core.proofs.Histories.{grown, replay_snoc, told_other, told_own, legal_front}
use Rattle.def_core.proofs.Lines.{same_or_apart, is_there, Follows, follows_front, follows_push, follows_last, line, line_awake, line_waits, own_caller, no_more}
use Rattle.def_core.proofs.Tidy.{some_is}
use Rattle.def_core.proofs.Events.{within}
use Rattle.def_core.proofs.Effects.{was, Cause, Knows, Circles, Claims, Waits, Publishes, Stops, Drops, effect}
use Rattle.def_core.proofs.Invariant.{Sound, Standing}
use Rattle.def_core.proofs.PublishedRight.{kept, others_stay, published_stays, next_of, standing}

module _ {X : Type 0} where
  -- a list ends as what follows one of its elements does
  last_behind : (xs : List X) (x y : X) (ys : List X) → last (xs ++ x ∷ y ∷ ys) ≡ last (y ∷ ys)
  last_behind [] x y ys = refl
  last_behind (z ∷ []) x y ys = refl
  last_behind (z ∷ w ∷ xs) x y ys = last_behind (w ∷ xs) x y ys

  -- nothing follows the last of distinct elements
  pub last_alone : (l : List X) (x y : X) → AreDistinct l → last l ≡ Some x → Follows l x y → ⊥
  last_alone l x y d e f =
      let g : last (y ∷ f.behind) ≡ Some x = sym (last_behind f.before x y f.behind) ∙ (ap last (sym f.is) ∙ e) in
      (distinct_from f.before (x ∷ y ∷ f.behind) (subst AreDistinct f.is d)).0 (last_in (y ∷ f.behind) x g)

module _ {K A : Type 0} (cmp : K → K → Ordering) (total : IsTotalOrder cmp) (r : Meaning K A)
    (lawful : IsLawful cmp r) where
  -- the key k that t asked is published, or directly behind t, or was told in the caller's last event
  pub data Served (n : ℕ) (h : List (Event K A)) (c : ℕ) (t k : K) : Type 0 where
    Already : IsSome (get cmp (replay cmp n h).published k) → Served n h c t k
    Behind : Follows (line (caller_at (replay cmp n h).callers c)) t k → Served n h c t k
    Told :
        (a : A) → told cmp r n h c ≡ (k, a) ∷ [] → top cmp r n h c ≡ Some t
        → (caller_at (replay cmp n h).callers c).awaits ≡ None → Served n h c t k

  -- what the caller is after its event
  pub now :
      (n : ℕ) (h : List (Event K A)) (e : Event K A) (next : Caller K) (pairs : List (K × A)) → MayFollow cmp r n h e
      → after cmp (replay cmp n h) e
      ≡ record { published = pairs; callers = with_caller (replay cmp n h).callers (caller_of e) next }
      → caller_at (replay cmp n (h ++ e ∷ [])).callers (caller_of e) ≡ next
  now n h e next pairs m is =
      ap (λ s. caller_at s.callers (caller_of e)) (replay_snoc cmp n h e ∙ is)
      ∙ own_caller (replay cmp n h).callers (caller_of e) next (within cmp (replay cmp n h) e m.fits)

  already :
      (n : ℕ) (h : List (Event K A)) (e : Event K A) (c : ℕ) (t k : K) → Sound cmp total r lawful (replay cmp n h)
      → MayFollow cmp r n h e
      → IsSome (get cmp (replay cmp n h).published k) → Served n (h ++ e ∷ []) c t k
  already n h e c t k sound m p =
      Already (subst (λ s. IsSome (get cmp s.published k)) (sym (replay_snoc cmp n h e))
      (kept cmp total r lawful (replay cmp n h).published (after cmp (replay cmp n h) e).published k
      (published_stays cmp total r lawful n h e sound m) p))

  behind_in :
      (n : ℕ) (h : List (Event K A)) (e : Event K A) (c : ℕ) (t k : K) (next : Caller K)
      → caller_at (replay cmp n (h ++ e ∷ [])).callers c ≡ next → Follows (line next) t k → Served n (h ++ e ∷ []) c t k
  behind_in n h e c t k next is f = Behind (subst (λ w. Follows (line w) t k) (sym is) f)

  served_other :
      (n : ℕ) (h : List (Event K A)) (e : Event K A) (c : ℕ) (t k : K) → Sound cmp total r lawful (replay cmp n h)
      → MayFollow cmp r n h e
      → 1 ≤ c → caller_of e ≢ c → Served n h c t k → Served n (h ++ e ∷ []) c t k
  served_other n h e c t k sound m l apart (Already p) = already n h e c t k sound m p
  served_other n h e c t k sound m l apart (Behind f) =
      behind_in n h e c t k (caller_at (replay cmp n h).callers c)
      (ap (λ s. caller_at s.callers c) (replay_snoc cmp n h e)
      ∙ others_stay cmp total r lawful (replay cmp n h) e c m.fits.least l apart) f
  served_other n h e c t k sound m l apart (Told a is is_top awake) =
      let same =
      sym (ap (λ s. caller_at s.callers c) (replay_snoc cmp n h e)
      ∙ others_stay cmp total r lawful (replay cmp n h) e c m.fits.least l apart) in
      Told a (told_other cmp r n h e c apart ∙ is)
      (subst (λ (w : Caller K). last w.chain ≡ Some t) same is_top)
      (subst (λ (w : Caller K). w.awaits ≡ None) same awake)

  served_own :
      (n : ℕ) (h : List (Event K A)) (e : Event K A) (t k : K) → Standing cmp total r lawful n h → MayFollow cmp r n h e
      → IsIn t (caller_at (replay cmp n (h ++ e ∷ [])).callers (caller_of e)).chain
      → Served n h (caller_of e) t k → Served n (h ++ e ∷ []) (caller_of e) t k
  served_own n h e t k st m still (Already p) = already n h e (caller_of e) t k st.sound m p
  served_own n h e t k st m still (Behind f) =
      elim (effect cmp r n h e m) [
        | Knows _ _ _ _ _ _ is ↦ behind_in n h e c t k w (ap (λ q. caller_at q.callers c) (replay_snoc cmp n h e ∙ is)) f
        | Circles _ _ _ _ _ _ _ is ↦
            behind_in n h e c t k w (ap (λ q. caller_at q.callers c) (replay_snoc cmp n h e ∙ is)) f
        | Claims j cause _ is ↦
            behind_in n h e c t k (record { chain = w.chain ++ j ∷ []; awaits = None }) (now n h e _ _ m is)
            (subst (λ l. Follows l t k) (sym (append_nil (w.chain ++ j ∷ []))) (claims j cause))
        | Waits j _ _ awake _ _ is ↦
            behind_in n h e c t k (record { chain = w.chain; awaits = Some j }) (now n h e _ _ m is)
            (follows_front w.chain (j ∷ []) t k (subst (λ l. Follows l t k) (line_awake w awake) f))
        | Publishes u a _ awake is_last _ is ↦
            elim (follows_push (without_last w.chain) u t k
            (subst (λ l. Follows l t k) (line_awake w awake ∙ last_some w.chain u is_last) f)) [
              | inl g ↦
                  behind_in n h e c t k (record { chain = without_last w.chain; awaits = None }) (now n h e _ _ m is)
                  (subst (λ l. Follows l t k) (sym (append_nil (without_last w.chain))) g)
              | inr g ↦
                  Already (subst (λ q. IsSome (get cmp q.published k)) (sym (replay_snoc cmp n h e ∙ is))
                  (subst (λ z. IsSome (get cmp ((u, a) ∷ s.published) z)) (sym g.1)
                  (is_there (get cmp ((u, a) ∷ s.published) u) a (get_here cmp total lawful.one_key u a s.published))))
            ]
        | Stops j _ waits p is ↦
            elim (follows_push w.chain j t k (subst (λ l. Follows l t k) (line_waits w j waits) f)) [
              | inl g ↦
                  behind_in n h e c t k (record { chain = w.chain; awaits = None }) (now n h e _ _ m is)
                  (subst (λ l. Follows l t k) (sym (append_nil w.chain)) g)
              | inr g ↦ already n h e c t k st.sound m (subst (λ z. IsSome (get cmp s.published z)) (sym g.1) p)
            ]
        | Drops _ is ↦ absurd (subst (λ (q : Caller K). IsIn t q.chain) (now n h e _ _ m is) still)
      ]
    where
      s : State K A
      s = replay cmp n h

      c : ℕ
      c = caller_of e

      w : Caller K
      w = was cmp n h e

      claims : (j : K) → Cause cmp r n h e j → Follows (w.chain ++ j ∷ []) t k
      claims j (inl cause) = follows_front w.chain (j ∷ []) t k (subst (λ l. Follows l t k) (line_awake w cause.1) f)
      claims j (inr cause) = subst (λ l. Follows l t k) (line_waits w j cause.1) f
  served_own n h e t k st m still (Told a is_told is_top awake) =
      elim (effect cmp r n h e m) [
        | Knows j _ _ _ may _ _ ↦ absurd (untold j may)
        | Circles j _ _ _ may _ _ _ ↦ absurd (untold j may)
        | Claims j cause _ _ ↦ absurd (claims j cause)
        | Waits j _ _ _ may _ _ ↦ absurd (untold j may)
        | Publishes u b _ _ is_last _ is ↦
            (let g : Some u ≡ Some t = sym is_last ∙ is_top in
            let same : u ≡ t = cc in
            let d : AreDistinct w.chain = chain_distinct s.callers (c - 1) st.sound.tidy.distinct in
            absurd (distinct_apart (without_last w.chain) t
            (subst (λ z. AreDistinct (without_last w.chain ++ z ∷ [])) same
            (subst AreDistinct (last_some w.chain u is_last) d))
            (subst (λ (q : Caller K). IsIn t q.chain) (now n h e _ _ m is) still)))
        | Stops j _ waits _ _ ↦ absurd (asleep j waits)
        | Drops _ is ↦ absurd (subst (λ (q : Caller K). IsIn t q.chain) (now n h e _ _ m is) still)
      ]
    where
      s : State K A
      s = replay cmp n h

      c : ℕ
      c = caller_of e

      w : Caller K
      w = was cmp n h e

      untold : (j : K) → MayAsk cmp r n h (caller_of e) j (top cmp r n h (caller_of e)) → ⊥
      untold j may =
          let next : IsNext cmp r n h (caller_of e) t j = next_of cmp total r lawful n h (caller_of e) j t may is_top in
          no_more (k, a) [] (sym is_told ∙ next.untold)

      asleep : (j : K) → w.awaits ≡ Some j → ⊥
      asleep j waits = let g : Some j ≡ None = sym waits ∙ awake in cc

      claims : (j : K) → Cause cmp r n h e j → ⊥
      claims j (inl cause) = untold j cause.2
      claims j (inr cause) = asleep j cause.1

  -- after the Ask itself
  served_ask :
      (n : ℕ) (h : List (Event K A)) (c : ℕ) (t k : K) → Standing cmp total r lawful n h → MayFollow cmp r n h (Ask c k)
      → top cmp r n h c ≡ Some t → Served n (h ++ Ask c k ∷ []) c t k
  served_ask n h c t k st m is_top =
      elim (effect cmp r n h e m) [
        | Knows j ask _ _ _ p _ ↦
            already n h e c t k st.sound m (subst (λ z. IsSome (get cmp s.published z)) (key j ask) p)
        | Circles j y ask awake _ o _ is ↦
            (let same : s ≡ replay cmp n (h ++ e ∷ []) = sym (replay_snoc cmp n h e ∙ is) in
            Told (r.circular y)
            (told_own cmp r n h e c refl ∙ ap (pair_of cmp r e) o)
            (subst (λ q. last (caller_at q.callers c).chain ≡ Some t) same is_top)
            (subst (λ q. (caller_at q.callers c).awaits ≡ None) same awake))
        | Claims j cause _ is ↦
            behind_in n h e c t k (record { chain = w.chain ++ j ∷ []; awaits = None }) (now n h e _ _ m is)
            (subst (λ l. Follows l t k) (sym (append_nil (w.chain ++ j ∷ []))) (ends j (claimed_key j cause)))
        | Waits j _ ask _ _ _ is ↦
            behind_in n h e c t k (record { chain = w.chain; awaits = Some j }) (now n h e _ _ m is) (ends j (key j ask))
        | Publishes _ a publish _ _ _ _ ↦ absurd (no_ask_publish e c c k a refl publish)
        | Stops _ look _ _ _ ↦ absurd (no_ask_look e c c k refl look)
        | Drops abandon _ ↦ absurd (no_ask_abandon e c c k refl abandon)
      ]
    where
      s : State K A
      s = replay cmp n h

      e : Event K A
      e = Ask c k

      w : Caller K
      w = was cmp n h (Ask c k)

      key : (j : K) → e ≡ Ask c j → j ≡ k
      key j ask = same_key (Ask c k) c c j k ask refl

      claimed_key : (j : K) → Cause cmp r n h (Ask c k) j → j ≡ k
      claimed_key j (inl cause) = key j cause.0
      claimed_key j (inr cause) = absurd (no_ask_look (Ask c k) c c k refl cause.0)

      ends : (j : K) → j ≡ k → Follows (w.chain ++ j ∷ []) t k
      ends j same = subst (λ z. Follows (w.chain ++ z ∷ []) t k) (sym same) (follows_last w.chain t k is_top)

  -- what was asked has been served, as long as the asking key is claimed
  served :
      (n : ℕ) (h : List (Event K A)) (c : ℕ) (t k : K) → Legal cmp r n h → HasAsked cmp r n h c t k → Served n h c t k
  served n h c t k legal asked =
      subst (λ g. Served n g c t k) (sym asked.is)
      (grown (λ mid. (rest : List (Event K A)) → asked.behind ≡ mid ++ rest
      → Served n (asked.before ++ Ask c k ∷ mid) c t k)
      (λ rest is. served_ask n asked.before c t k
      (standing cmp total r lawful n asked.before
      (legal_front cmp r n asked.before (Ask c k ∷ asked.behind) whole)) may asked.as_last)
      step asked.behind [] (sym (append_nil asked.behind)))
    where
      whole : Legal cmp r n (asked.before ++ Ask c k ∷ asked.behind)
      whole = subst (Legal cmp r n) asked.is legal

      may : MayFollow cmp r n asked.before (Ask c k)
      may = legal asked.before (Ask c k) asked.behind asked.is

      step :
          (mid : List (Event K A)) (e : Event K A)
          → ((rest : List (Event K A)) → asked.behind ≡ mid ++ rest → Served n (asked.before ++ Ask c k ∷ mid) c t k)
          → (rest : List (Event K A)) → asked.behind ≡ (mid ++ e ∷ []) ++ rest
          → Served n (asked.before ++ Ask c k ∷ (mid ++ e ∷ [])) c t k
      step mid e ih rest is =
          let front : List (Event K A) = asked.before ++ Ask c k ∷ mid in
          let is' : asked.behind ≡ mid ++ e ∷ rest = is ∙ append_more mid (e ∷ []) rest in
          let joined : asked.before ++ Ask c k ∷ (mid ++ e ∷ []) ≡ front ++ e ∷ [] =
          sym (append_more asked.before (Ask c k ∷ mid) (e ∷ [])) in
          let all : h ≡ front ++ e ∷ rest =
          asked.is
          ∙ (ap (λ l. asked.before ++ Ask c k ∷ l) is' ∙ sym (append_more asked.before (Ask c k ∷ mid) (e ∷ rest))) in
          let l : Legal cmp r n front = legal_front cmp r n front (e ∷ rest) (subst (Legal cmp r n) all legal) in
          let m : MayFollow cmp r n front e = legal front e rest all in
          let st : Standing cmp total r lawful n front = standing cmp total r lawful n front l in
          let still : IsIn t (caller_at (replay cmp n (front ++ e ∷ [])).callers c).chain =
          subst (λ g. IsIn t (caller_at (replay cmp n g).callers c).chain) joined (asked.since (mid ++ e ∷ []) rest is) in
          let before : Served n front c t k = ih (e ∷ rest) is' in
          subst (λ g. Served n g c t k) (sym joined)
          (elim (same_or_apart (caller_of e) c) [
            | inl same ↦ own front e c m st same still before
            | inr apart ↦ served_other n front e c t k st.sound m may.fits.least apart before
          ])
        where
          own :
              (front : List (Event K A)) (e : Event K A) (c : ℕ) → MayFollow cmp r n front e
              → Standing cmp total r lawful n front → caller_of e ≡ c
              → IsIn t (caller_at (replay cmp n (front ++ e ∷ [])).callers c).chain → Served n front c t k
              → Served n (front ++ e ∷ []) c t k
          own front e c m st same =
              subst (λ d. IsIn t (caller_at (replay cmp n (front ++ e ∷ [])).callers d).chain → Served n front d t k
              → Served n (front ++ e ∷ []) d t k)
              same (served_own n front e t k st m)

  -- what the last key of a chain needs, and nobody has published or told, it has not asked
  pub not_asked :
      (n : ℕ) (h : List (Event K A)) (c : ℕ) (t k : K) → Legal cmp r n h → top cmp r n h c ≡ Some t
      → (caller_at (replay cmp n h).callers c).awaits ≡ None → told cmp r n h c ≡ []
      → get cmp (replay cmp n h).published k ≡ None
      → ¬ HasAsked cmp r n h c t k
  not_asked n h c t k legal is_top awake untold lacks asked =
      elim (served n h c t k legal asked) [
        | Already p ↦
            (let a = some_is (get cmp (replay cmp n h).published k) p in let f : Some a.0 ≡ None = sym a.1 ∙ lacks in cc)
        | Behind f ↦
            last_alone (caller_at (replay cmp n h).callers c).chain t k
            (chain_distinct (replay cmp n h).callers (c - 1)
            (standing cmp total r lawful n h legal).sound.tidy.distinct) is_top
            (subst (λ l. Follows l t k) (line_awake (caller_at (replay cmp n h).callers c) awake) f)
        | Told a is _ _ ↦ no_more (k, a) [] (sym is ∙ untold)
      ]

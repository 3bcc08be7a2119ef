-- How an event moves the line of its caller, and what it publishes.
use Rattle.std.proofs.Common.{◌≡◌, ◌≢◌, inl, inr, ℕ, ◌-◌, List, [], ◌∷◌, ◌++◌, get_or, Some, None, IsSome, sym, ◌∙◌, ap, subst, get_or-set_other}
use Rattle.std.specs.Cmp.{IsTotalOrder}
use Rattle.std.specs.declared.cmp.Ordering.{Ordering}
use Rattle.def_query.specs.Lawful.{IsLawful}
use Rattle.def_query.specs.Map.{get}
use Rattle.def_query.specs.Meaning.{Meaning}
use Rattle.def_query.proofs.Maps.{get_here}
use Rattle.def_core.specs.declared.event.Event.{Event}
use Rattle.def_core.specs.declared.event.Event.TheVariants.{Ask, Publish, Look, Abandon}
use Rattle.def_core.specs.State.{Caller, State, caller_at, with_caller, idle, without_last}
use Rattle.def_core.specs.Replay.{caller_of, after, replay}
use Rattle.def_core.specs.Legal.{MayAsk, MayPublish, MayFollow, top, Legal}
use Rattle.def_core.proofs.Lists.{append_nil, append_more, last_some}
use Rattle.def_core.proofs.Histories.{grown, replay_snoc, legal_front, legal_last}
use Rattle.def_core.proofs.Lines.{is_there, line, line_awake, line_waits}
use Rattle.def_core.proofs.Effects.{was, Cause, Knows, Circles, Claims, Waits, Publishes, Stops, Drops, effect}
use Rattle.def_core.proofs.Invariant.{Sound, Standing}
use Rattle.def_core.proofs.PublishedRight.{kept, published_stays, standing}
use Rattle.def_core.proofs.Asked.{now}

module _ {K A : Type 0} (cmp : K → K → Ordering) where
  -- the caller after its event
  abbrev pub later : ℕ → List (Event K A) → Event K A → Caller K
  later n h e = caller_at (replay cmp n (h ++ e ∷ [])).callers (caller_of e)

  other_place :
      (s : State K A) (e : Event K A) (i : ℕ) → i ≢ caller_of e - 1
      → get_or (after cmp s e).callers i idle ≡ get_or s.callers i idle
  other_place s (Ask c k) i apart = get_or-set_other s.callers (c - 1) i _ idle apart
  other_place s (Publish c a) i apart = get_or-set_other s.callers (c - 1) i _ idle apart
  other_place s (Look c) i apart = get_or-set_other s.callers (c - 1) i _ idle apart
  other_place s (Abandon c) i apart = get_or-set_other s.callers (c - 1) i _ idle apart

  -- the callers at other places stay
  pub place_stays :
      (n : ℕ) (h : List (Event K A)) (e : Event K A) (i : ℕ) → i ≢ caller_of e - 1
      → get_or (replay cmp n (h ++ e ∷ [])).callers i idle ≡ get_or (replay cmp n h).callers i idle
  place_stays n h e i apart =
      ap (λ s. get_or s.callers i idle) (replay_snoc cmp n h e) ∙ other_place (replay cmp n h) e i apart

module _ {K A : Type 0} (cmp : K → K → Ordering) (total : IsTotalOrder cmp) (r : Meaning K A)
    (lawful : IsLawful cmp r) where
  pub data Move (n : ℕ) (h : List (Event K A)) (e : Event K A) : Type 0 where
    Same : line (later cmp n h e) ≡ line (was cmp n h e) → Move n h e
    Grows :
        (k : K) → e ≡ Ask (caller_of e) k → (was cmp n h e).awaits ≡ None
        → MayAsk cmp r n h (caller_of e) k (top cmp r n h (caller_of e))
        → line (later cmp n h e) ≡ line (was cmp n h e) ++ k ∷ [] → Move n h e
    Shrinks :
        (k : K) → line (was cmp n h e) ≡ line (later cmp n h e) ++ k ∷ []
        → IsSome (get cmp (replay cmp n (h ++ e ∷ [])).published k) → Move n h e
    Clears : e ≡ Abandon (caller_of e) → line (later cmp n h e) ≡ [] → Move n h e

  pub kept_on :
      (n : ℕ) (h : List (Event K A)) (e : Event K A) (k : K) → Sound cmp total r lawful (replay cmp n h)
      → MayFollow cmp r n h e
      → IsSome (get cmp (replay cmp n h).published k) → IsSome (get cmp (replay cmp n (h ++ e ∷ [])).published k)
  kept_on n h e k sound m p =
      subst (λ s. IsSome (get cmp s.published k)) (sym (replay_snoc cmp n h e))
      (kept cmp total r lawful (replay cmp n h).published (after cmp (replay cmp n h) e).published k
      (published_stays cmp total r lawful n h e sound m) p)

  -- what is published stays published
  pub kept_over :
      (n : ℕ) (h g : List (Event K A)) (k : K) → Legal cmp r n (h ++ g)
      → IsSome (get cmp (replay cmp n h).published k) → IsSome (get cmp (replay cmp n (h ++ g)).published k)
  kept_over n h g k legal p =
      grown (λ mid. Legal cmp r n (h ++ mid) → IsSome (get cmp (replay cmp n (h ++ mid)).published k))
      (λ l. subst (λ q. IsSome (get cmp (replay cmp n q).published k)) (sym (append_nil h)) p)
      (λ mid e ih l.
      let joined : (h ++ mid) ++ e ∷ [] ≡ h ++ (mid ++ e ∷ []) = append_more h mid (e ∷ []) in
      let l' : Legal cmp r n ((h ++ mid) ++ e ∷ []) = subst (Legal cmp r n) (sym joined) l in
      let f : Legal cmp r n (h ++ mid) = legal_front cmp r n (h ++ mid) (e ∷ []) l' in
      subst (λ q. IsSome (get cmp (replay cmp n q).published k)) joined
      (kept_on n (h ++ mid) e k (standing cmp total r lawful n (h ++ mid) f).sound (legal_last cmp r n (h ++ mid) e l')
      (ih f)))
      g legal

  pub move :
      (n : ℕ) (h : List (Event K A)) (e : Event K A) → Standing cmp total r lawful n h → MayFollow cmp r n h e
      → Move n h e
  move n h e st m =
      elim (effect cmp r n h e m) [
        | Knows _ _ _ _ _ _ is ↦ Same (ap (λ s. line (caller_at s.callers (caller_of e))) (replay_snoc cmp n h e ∙ is))
        | Circles _ _ _ _ _ _ _ is ↦
            Same (ap (λ s. line (caller_at s.callers (caller_of e))) (replay_snoc cmp n h e ∙ is))
        | Claims k cause _ is ↦ claims k cause (ap line (own is) ∙ append_nil (w.chain ++ k ∷ []))
        | Waits k _ ask awake may _ is ↦
            Grows k ask awake may (ap line (own is) ∙ ap (λ l. l ++ k ∷ []) (sym (line_awake w awake)))
        | Publishes t a _ awake is_last _ is ↦
            Shrinks t
            (line_awake w awake
            ∙ (last_some w.chain t is_last
            ∙ ap (λ l. l ++ t ∷ []) (sym (ap line (own is) ∙ append_nil (without_last w.chain)))))
            (subst (λ s. IsSome (get cmp s.published t)) (sym (replay_snoc cmp n h e ∙ is))
            (is_there (get cmp ((t, a) ∷ (replay cmp n h).published) t) a
            (get_here cmp total lawful.one_key t a (replay cmp n h).published)))
        | Stops k _ waits p is ↦
            Shrinks k
            (line_waits w k waits ∙ ap (λ l. l ++ k ∷ []) (sym (ap line (own is) ∙ append_nil w.chain)))
            (kept_on n h e k st.sound m p)
        | Drops abandon is ↦ Clears abandon (ap line (own is))
      ]
    where
      w : Caller K
      w = caller_at (replay cmp n h).callers (caller_of e)

      own :
          {next : Caller K} {pairs : List (K × A)}
          → after cmp (replay cmp n h) e
          ≡ record { published = pairs; callers = with_caller (replay cmp n h).callers (caller_of e) next }
          → later cmp n h e ≡ next
      own is = now cmp total r lawful n h e _ _ m is

      claims : (k : K) → Cause cmp r n h e k → line (later cmp n h e) ≡ w.chain ++ k ∷ [] → Move n h e
      claims k (inl cause) is = Grows k cause.0 cause.1 cause.2 (is ∙ ap (λ l. l ++ k ∷ []) (sym (line_awake w cause.1)))
      claims k (inr cause) is = Same (is ∙ sym (line_waits w k cause.1))

  -- the event publishes nothing, or the last key of its caller's chain
  pub data Gain (n : ℕ) (h : List (Event K A)) (e : Event K A) : Type 0 where
    Nothing : (replay cmp n (h ++ e ∷ [])).published ≡ (replay cmp n h).published → Gain n h e
    One :
        (t : K) (a : A) → e ≡ Publish (caller_of e) a → top cmp r n h (caller_of e) ≡ Some t
        → MayPublish cmp r n h (caller_of e) a (Some t)
        → (replay cmp n (h ++ e ∷ [])).published ≡ (t, a) ∷ (replay cmp n h).published → Gain n h e

  pub gain :
      (n : ℕ) (h : List (Event K A)) (e : Event K A) → Standing cmp total r lawful n h → MayFollow cmp r n h e
      → Gain n h e
  gain n h e st m =
      elim (effect cmp r n h e m) [
        | Knows _ _ _ _ _ _ is ↦ Nothing (ap (λ s. s.published) (replay_snoc cmp n h e ∙ is))
        | Circles _ _ _ _ _ _ _ is ↦ Nothing (ap (λ s. s.published) (replay_snoc cmp n h e ∙ is))
        | Claims _ _ _ is ↦ Nothing (ap (λ s. s.published) (replay_snoc cmp n h e ∙ is))
        | Waits _ _ _ _ _ _ is ↦ Nothing (ap (λ s. s.published) (replay_snoc cmp n h e ∙ is))
        | Publishes t a publish _ is_last may is ↦
            One t a publish is_last may (ap (λ s. s.published) (replay_snoc cmp n h e ∙ is))
        | Stops _ _ _ _ is ↦ Nothing (ap (λ s. s.published) (replay_snoc cmp n h e ∙ is))
        | Drops _ is ↦ Nothing (ap (λ s. s.published) (replay_snoc cmp n h e ∙ is))
      ]

-- What an event that may follow does to the state.
use Rattle.std.proofs.Common.{◌≡◌, ◌⊎◌, inl, inr, ℕ, List, [], ◌∷◌, ◌++◌, Option, Some, None, IsSome, refl, ◌∙◌, ap, subst}
use Rattle.std.specs.declared.cmp.Ordering.{Ordering}
use Rattle.def_query.specs.Map.{get}
use Rattle.def_query.specs.Meaning.{Meaning}
use Rattle.def_core.specs.declared.event.Event.{Event}
use Rattle.def_core.specs.declared.event.Event.TheVariants.{Ask, Publish, Look, Abandon}
use Rattle.def_core.specs.declared.outcome.Outcome.TheVariants.{Known, Yours, Circle, Wait}
use Rattle.def_core.specs.State.{Caller, State, caller_at, with_caller, idle, last, without_last}
use Rattle.def_core.specs.Needs.{closing}
use Rattle.def_core.specs.Replay.{caller_of, outcome, after, replay}
use Rattle.def_core.specs.Legal.{MayAsk, MayPublish, MayFollow, top}
use Rattle.def_core.proofs.Lists.{last_exists}
use Rattle.def_core.proofs.Events.{AsksKnown, AsksFree, AsksCircle, AsksClaimed, ask_view, LooksKnown, LooksFree, LooksClaimed, look_view, publish_is, with_next}
use Rattle.def_core.proofs.Tidy.{some_is}
use Rattle.def_core.proofs.Lines.{is_there}

module _ {K A : Type 0} (cmp : K → K → Ordering) where
  -- the caller before the event
  abbrev pub was : ℕ → List (Event K A) → Event K A → Caller K
  was n h e = caller_at (replay cmp n h).callers (caller_of e)

  -- the state with another caller in the place of the event's
  abbrev pub changed : ℕ → List (Event K A) → Event K A → Caller K → State K A
  changed n h e next = with_next cmp (replay cmp n h) (caller_of e) next

module _ {K A : Type 0} (cmp : K → K → Ordering) (r : Meaning K A) where
  -- why a key is claimed: it is asked and not published, or awaited and now claimed by nobody
  abbrev pub Cause : ℕ → List (Event K A) → Event K A → K → Type 0
  Cause n h e k =
      ((e ≡ Ask (caller_of e) k) × ((was cmp n h e).awaits ≡ None)
      × MayAsk cmp r n h (caller_of e) k (top cmp r n h (caller_of e)))
      ⊎ ((e ≡ Look (caller_of e)) × ((was cmp n h e).awaits ≡ Some k))

  pub data Effect (n : ℕ) (h : List (Event K A)) (e : Event K A) : Type 0 where
    -- an Ask of a key that is published
    Knows :
        (k : K) → e ≡ Ask (caller_of e) k → (was cmp n h e).awaits ≡ None → outcome cmp (replay cmp n h) e ≡ Known
        → MayAsk cmp r n h (caller_of e) k (top cmp r n h (caller_of e))
        → IsSome (get cmp (replay cmp n h).published k)
        → after cmp (replay cmp n h) e ≡ replay cmp n h → Effect n h e
    -- an Ask that comes to a cycle
    Circles :
        (k : K) (y : List K) → e ≡ Ask (caller_of e) k → (was cmp n h e).awaits ≡ None
        → MayAsk cmp r n h (caller_of e) k (top cmp r n h (caller_of e))
        → outcome cmp (replay cmp n h) e ≡ Circle y → closing cmp (replay cmp n h).callers (caller_of e) k ≡ Some y
        → after cmp (replay cmp n h) e ≡ replay cmp n h → Effect n h e
    -- the key becomes the last one of the chain
    Claims :
        (k : K) → Cause n h e k → outcome cmp (replay cmp n h) e ≡ Yours
        → after cmp (replay cmp n h) e ≡ changed cmp n h e
        (record { chain = (was cmp n h e).chain ++ k ∷ []; awaits = None })
        → Effect n h e
    -- the caller waits for the key
    Waits :
        (k : K) (w : ℕ) → e ≡ Ask (caller_of e) k → (was cmp n h e).awaits ≡ None
        → MayAsk cmp r n h (caller_of e) k (top cmp r n h (caller_of e))
        → outcome cmp (replay cmp n h) e ≡ Wait w
        → after cmp (replay cmp n h) e ≡ changed cmp n h e (record { chain = (was cmp n h e).chain; awaits = Some k })
        → Effect n h e
    -- the last key of the chain is published
    Publishes :
        (t : K) (a : A) → e ≡ Publish (caller_of e) a → (was cmp n h e).awaits ≡ None
        → last (was cmp n h e).chain ≡ Some t
        → MayPublish cmp r n h (caller_of e) a (Some t)
        → after cmp (replay cmp n h) e ≡ record {
          published = (t, a) ∷ (replay cmp n h).published;
          callers =
              with_caller (replay cmp n h).callers (caller_of e)
              (record { chain = without_last (was cmp n h e).chain; awaits = None });
        } → Effect n h e
    -- the awaited key is published, and awaited no longer
    Stops :
        (k : K) → e ≡ Look (caller_of e) → (was cmp n h e).awaits ≡ Some k
        → IsSome (get cmp (replay cmp n h).published k)
        → after cmp (replay cmp n h) e ≡ changed cmp n h e (record { chain = (was cmp n h e).chain; awaits = None })
        → Effect n h e
    -- all is given back
    Drops : e ≡ Abandon (caller_of e) → after cmp (replay cmp n h) e ≡ changed cmp n h e idle → Effect n h e

  ask_effect : (n : ℕ) (h : List (Event K A)) (c : ℕ) (k : K) → MayFollow cmp r n h (Ask c k) → Effect n h (Ask c k)
  ask_effect n h c k m =
      elim (ask_view cmp (replay cmp n h) c k) [
        | AsksKnown a p o is ↦
            Knows k refl m.fits.allowed o m.may (is_there (get cmp (replay cmp n h).published k) a p) is
        | AsksFree _ _ o is ↦ Claims k (inl (refl, m.fits.allowed, m.may)) o is
        | AsksCircle _ y _ _ closes o is ↦ Circles k y refl m.fits.allowed m.may o closes is
        | AsksClaimed w _ _ _ o is ↦ Waits k w refl m.fits.allowed m.may o is
      ]

  publish_effect :
      (n : ℕ) (h : List (Event K A)) (c : ℕ) (a : A) → MayFollow cmp r n h (Publish c a) → Effect n h (Publish c a)
  publish_effect n h c a m =
      let w : Caller K = was cmp n h (Publish c a) in
      let t = last_exists w.chain m.fits.allowed.1 in
      Publishes t.0 a refl m.fits.allowed.0 t.1
      (subst (MayPublish cmp r n h c a) t.1 m.may)
      (publish_is cmp (replay cmp n h) c a t.0 t.1
      ∙ ap (λ (o : Option K). record {
        published = (t.0, a) ∷ (replay cmp n h).published;
        callers = with_caller (replay cmp n h).callers c (record { chain = without_last w.chain; awaits = o });
      }) m.fits.allowed.0)

  look_effect : (n : ℕ) (h : List (Event K A)) (c : ℕ) → MayFollow cmp r n h (Look c) → Effect n h (Look c)
  look_effect n h c m =
      let k = some_is (was cmp n h (Look c)).awaits m.fits.allowed in
      elim (look_view cmp (replay cmp n h) c k.0 k.1) [
        | LooksKnown a p _ is ↦ Stops k.0 refl k.1 (is_there (get cmp (replay cmp n h).published k.0) a p) is
        | LooksFree _ _ o is ↦ Claims k.0 (inr (refl, k.1)) o is
        | LooksClaimed w _ _ o _ ↦ absurd (m.may w o)
      ]

  pub effect : (n : ℕ) (h : List (Event K A)) (e : Event K A) → MayFollow cmp r n h e → Effect n h e
  effect n h (Ask c k) m = ask_effect n h c k m
  effect n h (Publish c a) m = publish_effect n h c a m
  effect n h (Look c) m = look_effect n h c m
  effect n h (Abandon c) m = Drops refl refl

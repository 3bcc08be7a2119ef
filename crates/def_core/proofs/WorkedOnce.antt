-- Each key is worked out once, and all that is asked for is.
use Rattle.std.proofs.Common.{◌≡◌, ℕ, ◌+◌, ◌*◌, ◌≤◌, List, [], ◌∷◌, ◌++◌, length, filter, Option, Some, None, IsSome, sym, ◌∙◌, ap, subst, refl, arith}
use Rattle.std.specs.Cmp.{IsTotalOrder}
use Rattle.std.specs.declared.cmp.Ordering.{Ordering}
use Rattle.std.proofs.lemmas.List.Elements.{filter-append}
use Rattle.def_query.specs.Lawful.{IsLawful}
use Rattle.def_query.specs.Map.{get}
use Rattle.def_query.specs.Meaning.{Meaning}
use Rattle.def_core.specs.declared.event.Event.{Event}
use Rattle.def_core.specs.declared.event.Event.TheVariants.{Ask, Publish, Look, Abandon}
use Rattle.def_core.specs.Laws.{WorkedOnce, IsClosure, IsUnder, ArePublished, HasNoAbandon, keys_of, publishes, roots as who_roots}
use Rattle.def_core.specs.Legal.{MayFollow, MayPublish, Legal, top}
use Rattle.def_core.specs.Replay.{after, replay, with_answer}
use Rattle.def_core.specs.State.{AreIdle}
use Rattle.def_core.proofs.Histories.{always, replay_snoc}
use Rattle.def_core.proofs.Lists.{length_more}
use Rattle.def_core.proofs.RootKeys.{roots, same_roots, as_many}
use Rattle.def_core.proofs.Roots.{once, rooted, ended}
use Rattle.def_core.proofs.Whole.{whole}
use Rattle.def_core.proofs.Closure.{finite}
use Rattle.def_core.proofs.Bounded.{bounded}

module _ {K A : Type 0} (cmp : K → K → Ordering) (total : IsTotalOrder cmp) (r : Meaning K A)
    (lawful : IsLawful cmp r) where
  one_answer :
      (n : ℕ) (h : List (Event K A)) (c : ℕ) (a : A) (t : Option K) → MayPublish cmp r n h c a t
      → length (with_answer cmp t a (replay cmp n h).published) ≡ length (replay cmp n h).published + 1
  one_answer n h c a None m = absurd m
  one_answer n h c a (Some t) m = omega arith

  one_event :
      (n : ℕ) (h : List (Event K A)) (e : Event K A) → MayFollow cmp r n h e
      → length (after cmp (replay cmp n h) e).published
      ≡ length (replay cmp n h).published + length (filter (publishes cmp r) (e ∷ []))
  one_event n h (Ask c k) m = omega arith
  one_event n h (Publish c a) m = one_answer n h c a (top cmp r n h c) m.may
  one_event n h (Look c) m = omega arith
  one_event n h (Abandon c) m = omega arith

  -- as many keys are published as there are events that publish one
  counted :
      (n : ℕ) (h : List (Event K A)) → Legal cmp r n h
      → length (filter (publishes cmp r) h) ≡ length (replay cmp n h).published
  counted n =
      always cmp r n (λ h. length (filter (publishes cmp r) h) ≡ length (replay cmp n h).published) refl
      (λ h e legal ih m.
      let a = ap length (filter-append (publishes cmp r) h (e ∷ []))
      ∙ length_more (filter (publishes cmp r) h) (filter (publishes cmp r) (e ∷ [])) in
      let b = one_event n h e m in
      let s = ap (λ t. length t.published) (replay_snoc cmp n h e) in
      a ∙ (ap (λ l. l + length (filter (publishes cmp r) (e ∷ []))) ih ∙ (sym b ∙ sym s)))

  pub worked_once : WorkedOnce cmp r
  worked_once n h legal =
      let same : roots cmp r n h ≡ keys_of cmp r (who_roots cmp r n h) = same_roots cmp r n h in
      record {
        once = once cmp total r lawful n h legal;
        counted = counted n h legal;
        within =
            subst (λ l. (k : K) → IsSome (get cmp (replay cmp n h).published k) → IsUnder cmp r l k) same
            (rooted cmp total r lawful n h legal).published;
        whole = λ idle.
            subst (λ l. ArePublished cmp r (replay cmp n h) l → (k : K) → IsUnder cmp r l k → IsSome (get cmp (replay cmp n h).published k)) same
            (whole cmp total r lawful n h legal);
        finite = finite cmp total r lawful (keys_of cmp r (who_roots cmp r n h));
        bounded = λ stays keys edges closure.
            let b = bounded cmp total r lawful n h legal stays keys edges (subst (λ l. IsClosure cmp r l keys edges) (sym same) closure) in
            subst (λ m. length h ≤ length keys + 2 * (length edges + m)) (as_many cmp r n h) b;
        ended = λ stays idle. subst (ArePublished cmp r (replay cmp n h)) same (ended cmp total r lawful n h legal stays idle);
      }

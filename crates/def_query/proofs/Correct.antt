-- Correct maps: what a body needs and what it is done with under them.
use Rattle.std.proofs.Common.{◌≡◌, ◌⊎◌, inl, inr, List, [], ◌∷◌, sym, ◌∙◌, subst}
use Rattle.std.specs.Cmp.{IsTotalOrder}
use Rattle.std.specs.declared.cmp.Ordering.{Ordering}
use Rattle.def_query.specs.Map.{IsWithin}
use Rattle.def_query.specs.Meaning.{Meaning}
use Rattle.def_query.specs.Settles.{Settles, IsSettled, IsGiven, Depends, Stuck}
use Rattle.def_query.specs.Cycle.{IsCycleOf}
use Rattle.def_query.specs.Answer.{IsCircular, Answers, IsCorrect}
use Rattle.def_query.specs.Lawful.{IsLawful}
use Rattle.def_query.specs.declared.step.Step.TheVariants.{Needs, Done}
use Rattle.def_query.proofs.Walks.{leads_step, leads_reaches}
use Rattle.def_query.proofs.Maps.{within_cons, get_cases}
use Rattle.def_query.proofs.Runs.{Has, run, one_answer, depends_settles, depends_within, settles_given, not_needs_and_done, IsTrueTo}

module _ {K A : Type 0} (cmp : K → K → Ordering) (total : IsTotalOrder cmp) (r : Meaning K A) (lawful : IsLawful cmp r) where
  pub cycle_unsettled : (k : K) (c : List K) → IsCycleOf cmp r k c → ¬ IsSettled cmp r k
  cycle_unsettled k [] h = absurd h
  cycle_unsettled k (x ∷ xs) h = h.unsettled

  -- the cycle of what k is stuck at is that of k
  pub same_cycle : (k y : K) (c : List K) → Stuck cmp r k y → IsCycleOf cmp r y c → IsCycleOf cmp r k c
  same_cycle k y [] s h = absurd h
  same_cycle k y (x ∷ xs) s h = record {
    unsettled = λ t. s.unsettled (depends_settles cmp total r lawful k y t s.depends);
    reached = inr (leads_reaches (Stuck cmp r) k y x (leads_step (Stuck cmp r) k y s) h.reached);
    closed = h.closed;
    least = h.least;
  }

  pub circular_unsettled : (k : K) (a : A) → IsCircular cmp r k a → ¬ IsSettled cmp r k
  circular_unsettled k a h = cycle_unsettled k h.cycle h.is_cycle

  pub circular_handed : (k y : K) (a : A) → Depends cmp r k y → IsCircular cmp r y a → IsCircular cmp r k a
  circular_handed k y a d h = record {
    cycle = h.cycle;
    is_cycle = same_cycle k y h.cycle record { depends = d; unsettled = circular_unsettled y a h } h.is_cycle;
    told = h.told;
  }

  pub handed_on : (k y : K) (a : A) → Depends cmp r k y → ¬ IsSettled cmp r y → Answers cmp r y a → Answers cmp r k a
  handed_on k y a d u (inl s) = absurd (u (a, s))
  handed_on k y a d u (inr h) = inr (circular_handed k y a d h)

  pub correct_true : (n : List (K × A)) → IsCorrect cmp r n → IsTrueTo cmp total r lawful n
  correct_true n correct y b c h s =
      elim (correct y c h) [
        | inl t ↦ one_answer cmp total r lawful y b c s t
        | inr t ↦ absurd (circular_unsettled y c t (b, s))
      ]

  -- the first circular answer that the body of k is given
  record First (k : K) (m : List (K × A)) : Type 0 where
    key : K
    answer : A
    earlier : List (K × A)
    given : IsGiven cmp r (Settles cmp r) k earlier
    needs : r.body k earlier ≡ Needs key
    circular : IsCircular cmp r key answer
    within : IsWithin cmp ((key, answer) ∷ earlier) m

  settled_or_first :
      (k : K) (n m : List (K × A)) → IsCorrect cmp r n → IsGiven cmp r (Has cmp total r lawful n) k m
      → IsGiven cmp r (Settles cmp r) k m ⊎ First k m
  settled_or_first k n [] correct g = inl tt
  settled_or_first k n (p ∷ m) correct g =
      elim (settled_or_first k n m correct g.2) [
        | inr f ↦ inr record {
          key = f.key;
          answer = f.answer;
          earlier = f.earlier;
          given = f.given;
          needs = f.needs;
          circular = f.circular;
          within = λ y a h. within_cons cmp total lawful.one_key p.0 p.1 m (lawful.needs_lacking k m p.0 g.0) y a (f.within y a h);
        }
        | inl s ↦ elim (correct p.0 p.1 g.1) [
          | inl t ↦ inl (g.0, t, s)
          | inr t ↦ inr record {
            key = p.0;
            answer = p.1;
            earlier = m;
            given = s;
            needs = g.0;
            circular = t;
            within = λ y a h. h;
          }
        ]
      ]

  -- a body that is given a circular answer hands it on
  first_done : (k : K) (m : List (K × A)) (f : First k m) → r.body k m ≡ Done f.answer
  first_done k m f =
      let e = lawful.circular_stays k f.earlier f.key f.circular.cycle f.needs in
      let e' : r.body k ((f.key, f.answer) ∷ f.earlier) ≡ Done f.answer =
      subst (λ a. r.body k ((f.key, a) ∷ f.earlier) ≡ Done a) (sym f.circular.told) e in
      lawful.done_stays k ((f.key, f.answer) ∷ f.earlier) m f.answer e' f.within

  first_depends : (k : K) (m : List (K × A)) (f : First k m) → Depends cmp r k f.key
  first_depends k m f = record { earlier = f.earlier; given = f.given; needs = f.needs }

  -- what a body is done with under a correct map is the key's answer
  pub done_answers : (k : K) (n : List (K × A)) (a : A) → IsCorrect cmp r n → r.body k n ≡ Done a → Answers cmp r k a
  done_answers k n a correct e =
      let u = run cmp total r lawful k n in
      elim (settled_or_first k n u.used correct u.given) [
        | inl s ↦ inl (settles_given cmp total r lawful k u.used a s (u.same ∙ e))
        | inr f ↦
            (let d : Done f.answer ≡ Done a = sym (first_done k u.used f) ∙ (u.same ∙ e) in
            let v : f.answer ≡ a = cc in
            inr (circular_handed k f.key a (first_depends k u.used f) (subst (IsCircular cmp r f.key) v f.circular)))
      ]

  -- what a body needs under a correct map, its key depends on
  pub needs_depends : (k : K) (n : List (K × A)) (y : K) → IsCorrect cmp r n → r.body k n ≡ Needs y → Depends cmp r k y
  needs_depends k n y correct e =
      let u = run cmp total r lawful k n in
      elim (settled_or_first k n u.used correct u.given) [
        | inl s ↦ record { earlier = u.used; given = s; needs = u.same ∙ e }
        | inr f ↦ absurd (not_needs_and_done cmp total r lawful k u.used y f.answer (u.same ∙ e) (first_done k u.used f))
      ]

  -- a key that is done under a correct map depends on its keys alone
  pub done_closed :
      (k y : K) (n : List (K × A)) (a : A) → IsCorrect cmp r n → r.body k n ≡ Done a → Depends cmp r k y
      → (b : A) × Has cmp total r lawful n y b
  done_closed k y n a correct e d =
      elim (depends_within cmp total r lawful k y n (correct_true n correct) d) [
        | inl h ↦ h
        | inr q ↦ elim q [
          | inl f ↦ absurd (not_needs_and_done cmp total r lawful k n y a f e)
          | inr l ↦ absurd (not_needs_and_done cmp total r lawful k n l.key a l.needs e)
        ]
      ]

  -- a key that needs x, which does not settle, depends on x and on keys of the map alone
  pub stuck_closed :
      (k x y : K) (n : List (K × A)) → IsCorrect cmp r n → r.body k n ≡ Needs x → ¬ IsSettled cmp r x → Depends cmp r k y
      → ((b : A) × Has cmp total r lawful n y b) ⊎ (y ≡ x)
  stuck_closed k x y n correct e u d =
      elim (depends_within cmp total r lawful k y n (correct_true n correct) d) [
        | inl h ↦ inl h
        | inr q ↦ elim q [
          | inl f ↦ inr (let g : Needs y ≡ Needs x = sym f ∙ e in cc)
          | inr l ↦ absurd (u (subst (IsSettled cmp r) (let g : Needs l.key ≡ Needs x = sym l.needs ∙ e in cc) l.settles))
        ]
      ]

  -- one more answer
  pub correct_cons : (n : List (K × A)) (k : K) (a : A) → IsCorrect cmp r n → Answers cmp r k a → IsCorrect cmp r ((k, a) ∷ n)
  correct_cons n k a correct h y b g =
      elim (get_cases cmp total lawful.one_key k y a b n g) [
        | inl s ↦ subst (λ z. Answers cmp r z b) (sym s.0) (subst (Answers cmp r k) s.1 h)
        | inr g' ↦ correct y b g'
      ]

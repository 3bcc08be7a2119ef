-- What follows from the laws of rules.
use Rattle.std.proofs.Common.{◌≡◌, inl, inr, ℕ, zero, suc, List, [], ◌∷◌, ◌++◌, Some, None, refl, sym, ◌∙◌, ap, subst}
use Rattle.std.specs.Cmp.{IsTotalOrder}
use Rattle.std.specs.List.{AllByRecursion}
use Rattle.std.specs.declared.cmp.Ordering.{Ordering}
use Rattle.def_query.specs.Map.{get, IsWithin}
use Rattle.def_query.specs.Meaning.{Meaning}
use Rattle.def_query.specs.Settles.{Settled, Settles, IsSettled, Depends, Stuck}
use Rattle.def_query.specs.Cycle.{IsCycleOf, MeetsCycle}
use Rattle.def_query.specs.Answer.{Answers, TellsCycle}
use Rattle.def_query.specs.Lawful.{IsLawful}
use Rattle.def_query.specs.Laws.{IsSettling, IsAnswering, IsTellingCycles, IsGrowing, IsRotated}
use Rattle.def_query.proofs.Walks.{walk_along}
use Rattle.def_query.proofs.Maps.{cons_within}
use Rattle.def_query.proofs.Runs.{run, one_answer as settles_once, one_way as stuck_once, loop_unsettled}
use Rattle.def_query.proofs.Correct.{same_cycle, handed_on, cycle_unsettled}
use Rattle.def_query.proofs.Least.{LeastOf, least_of}
use Rattle.def_query.proofs.Loops.{loop_cycle, reaches_settled}
use Rattle.def_query.proofs.Decide.{Loop, settles_or_loops}
use Rattle.def_query.proofs.OneCycle.{same_loop, distinct_loop}

module _ {K A : Type 0} (cmp : K → K → Ordering) (total : IsTotalOrder cmp) (r : Meaning K A) (lawful : IsLawful cmp r) where
  cycle_of : (k : K) → Loop cmp total r lawful k → (c : List K) × IsCycleOf cmp r k c
  cycle_of k l =
      let m : LeastOf cmp total lawful.one_key (l.key ∷ l.after) = least_of cmp total lawful.one_key l.key l.after l.distinct in
      (m.key ∷ (m.after ++ m.before), loop_cycle cmp total r lawful k l.key l.after l.reached l.closed m)

  meets_none : (k : K) → IsSettled cmp r k → ¬ MeetsCycle cmp r k
  meets_none k s m = loop_unsettled cmp total r lawful m.0 m.2 (reaches_settled cmp total r lawful k m.0 m.1 s)

  settles : (k : K) → ¬ MeetsCycle cmp r k → IsSettled cmp r k
  settles k h =
      elim (settles_or_loops cmp total r lawful k) [
        | inl s ↦ s
        | inr l ↦ absurd (h (l.key, l.reached, (l.after, l.closed)))
      ]

  has_cycle : (k : K) → ¬ IsSettled cmp r k → (c : List K) × IsCycleOf cmp r k c
  has_cycle k h =
      elim (settles_or_loops cmp total r lawful k) [
        | inl s ↦ absurd (h s)
        | inr l ↦ cycle_of k l
      ]

  pub one_cycle : (k : K) (c d : List K) → IsCycleOf cmp r k c → IsCycleOf cmp r k d → c ≡ d
  one_cycle k [] d g h = absurd g
  one_cycle k (x ∷ xs) [] g h = absurd h
  one_cycle k (x ∷ xs) (y ∷ ys) g h =
      same_loop cmp total lawful.one_key (Stuck cmp r) (stuck_once cmp total r lawful)
      k x y xs ys g.reached h.reached g.closed h.closed g.least h.least

  rotated : (k : K) (c : List K) → IsCycleOf cmp r k c → IsRotated cmp r c
  rotated k [] h = absurd h
  rotated k (x ∷ xs) h = record {
    closed = walk_along (Stuck cmp r) (Depends cmp r) (λ y z s. s.depends) x (xs ++ x ∷ []) h.closed;
    distinct = distinct_loop cmp total lawful.one_key (Stuck cmp r) (stuck_once cmp total r lawful) x xs h.closed h.least;
    least = h.least;
  }

  pub settling : IsSettling cmp r
  settling = record {
    one_answer = λ k a b s t. settles_once cmp total r lawful k b a t s;
    meets_none = meets_none;
    settles = settles;
    has_cycle = has_cycle;
    one_cycle = one_cycle;
    rotated = rotated;
  }

  has_answer : (k : K) → (a : A) × Answers cmp r k a
  has_answer k =
      elim (settles_or_loops cmp total r lawful k) [
        | inl s ↦ (s.0, inl s.1)
        | inr l ↦
            (let c = cycle_of k l in
            (r.circular c.0, inr record { cycle = c.0; is_cycle = c.1; told = refl }))
      ]

  pub one_answer : (k : K) (a b : A) → Answers cmp r k a → Answers cmp r k b → a ≡ b
  one_answer k a b (inl s) (inl t) = settles_once cmp total r lawful k b a t s
  one_answer k a b (inl s) (inr c) = absurd (cycle_unsettled cmp total r lawful k c.cycle c.is_cycle (a, s))
  one_answer k a b (inr c) (inl s) = absurd (cycle_unsettled cmp total r lawful k c.cycle c.is_cycle (b, s))
  one_answer k a b (inr c) (inr d) =
      c.told ∙ (ap r.circular (one_cycle k c.cycle d.cycle c.is_cycle d.is_cycle) ∙ sym d.told)

  pub answering : IsAnswering cmp r
  answering = record {
    has_answer = has_answer;
    one_answer = one_answer;
    one_way = stuck_once cmp total r lawful;
    same_cycle = same_cycle cmp total r lawful;
    handed_on = handed_on cmp total r lawful;
  }

  -- no settled answer tells a cycle
  untold : (n : ℕ) (k : K) (c : List K) → Settled cmp r n k (r.circular c) → ⊥
  untold zero k c h = h
  untold (suc n) k c h =
      let u = lawful.circular_used k h.0 c h.2 in
      untold n u.0 c (h.1 u.0 (r.circular c) u.1)

  settled_untold : (k : K) (a : A) → Settles cmp r k a → ¬ TellsCycle cmp r a
  settled_untold k a s t = untold s.round k t.0 (subst (Settled cmp r s.round k) t.1 s.settled)

  pub telling_cycles : IsTellingCycles cmp r
  telling_cycles k a (inl s) = ((λ t. absurd (settled_untold k a s t)), (λ u. absurd (u (a, s))))
  telling_cycles k a (inr c) = ((λ t. cycle_unsettled cmp total r lawful k c.cycle c.is_cycle), (λ u. (c.cycle, c.told)))

  all_within : (m n : List (K × A)) → AllByRecursion (λ p. get cmp n p.0 ≡ Some p.1) m → IsWithin cmp m n
  all_within [] n h = λ k a g. let g' : None ≡ Some a = g in absurd (cc)
  all_within (p ∷ m) n h = cons_within cmp total lawful.one_key p.0 p.1 m n (all_within m n h.1) h.0

  pub growing : IsGrowing cmp r
  growing = record {
    done = λ k m n a e agrees.
        let u = run cmp total r lawful k m in
        lawful.done_stays k u.used n a (u.same ∙ e) (all_within u.used n (agrees u.used u.given));
    needs = λ k m n y e agrees lacks.
        let u = run cmp total r lawful k m in
        lawful.needs_stay k u.used n y (u.same ∙ e) (all_within u.used n (agrees u.used u.given)) lacks;
  }

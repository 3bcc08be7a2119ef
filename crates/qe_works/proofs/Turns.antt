-- What is legal in a caller's next turn.
use Rattle.std.proofs.Common.{◌≡◌, ◌≤◌, List, [], ◌∷◌, ◌++◌, Some, IsSome, refl, sym, ◌∙◌, ap, subst}
use Rattle.std.specs.declared.cmp.Ordering.{Ordering}
use Rattle.def_query.specs.Meaning.{Meaning}
use Rattle.def_core.specs.declared.event.Event.{Event}
use Rattle.def_core.specs.declared.event.Event.TheVariants.{Look}
use Rattle.def_core.specs.State.{Caller, caller_at}
use Rattle.def_core.specs.Replay.{caller_of, replay, Fits}
use Rattle.def_core.specs.Legal.{Legal}
use Rattle.def_core.specs.Laws.{IsUnmoved, UnmovedByOthers}
use Rattle.def_core.proofs.Histories.{legal_snoc}
use Rattle.def_turn.specs.Pass.{IsCurrent}
use Rattle.def_session.specs.Caller.{SessionPass, own}
use Rattle.qe_table.proofs.Standing.{all_callers}
use Rattle.qe_works.specs.Turns.{StaysLegal, LooksOn}

module _ {R K A : Type 0} (cmp : K → K → Ordering) (r : Meaning K A) (unmoved : UnmovedByOthers cmp r) where
  -- what others have done since
  since : (p : SessionPass R K A) (h : List (Event K A)) → 1 ≤ p.number → Legal cmp r p.lock.subject.callers p.seen
      → Legal cmp r p.lock.subject.callers h → IsCurrent caller_of p h
      → (more : List (Event K A)) × (p.seen ++ more ≡ h) × IsUnmoved cmp r p.lock.subject.callers p.seen more p.number
  since p h least seen legal current =
      let more = current.begins.0 in
      let is : p.seen ++ more ≡ h = current.begins.1 in (
        more,
        is,
        unmoved p.lock.subject.callers p.seen more p.number least seen (subst (Legal cmp r p.lock.subject.callers) (sym is) legal)
            (ap (λ l. Rattle.def_turn.specs.Pass.entries_of caller_of p.number l) is ∙ current.own),
      )

  pub stays_legal : StaysLegal cmp r R
  stays_legal p e h least by kind seen may legal current =
      let s = since p h least seen legal current in
      subst (λ l. Legal cmp r p.lock.subject.callers (l ++ e ∷ [])) s.1 (s.2.legal e by kind may)

  pub looks_on : LooksOn cmp r R
  looks_on p k h within awaits seen legal current =
      let n = p.lock.subject.callers in
      let s = since p h within.least seen legal current in
      let same : caller_at (replay cmp n h).callers p.number ≡ own cmp p =
      ap (λ l. caller_at (replay cmp n l).callers p.number) (sym s.1) ∙ s.2.same in
      let waits : (caller_at (replay cmp n h).callers p.number).awaits ≡ Some k = ap (λ (w : Caller K). w.awaits) same ∙ awaits in
      let fits : Fits cmp (replay cmp n h) (Look p.number) = record {
        least = within.least;
        greatest = subst (λ m. p.number ≤ m) (sym (all_callers cmp record { callers = n; history = h })) within.greatest;
        allowed = subst IsSome (sym waits) refl;
      } in
      record {
        fits = fits;
        awaits = waits;
        legal = λ free. legal_snoc cmp r n h (Look p.number) legal record { fits = fits; may = free };
      }

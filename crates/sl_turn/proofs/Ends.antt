-- The rule at the opening of a lock, and what it says at the end.
use Rattle.std.proofs.Common.{◌≡◌, ◌≢◌, ℕ, zero, suc, ◌<◌, ◌≤◌, ◌==◌, true, false, List, [], ◌∷◌, ◌++◌, Option, Some, None, refl, ap, sym, ◌∙◌, subst, inl, inr, ⊎_elim, arith, append-nil}
use Rattle.std.proofs.lemmas.List.Elements.{filter-append}
use mathlib.Core.Option as maybe
use lib.ListN.{get_elem?}
use Rattle.atomic_table.specs.Table.{State, opening, Final, Seen}
use Rattle.def_turn.specs.Pass.{entries_of, Holds, AreNumbered}
use Rattle.sl_turn.specs.declared.view.View.{View}
use Rattle.sl_turn.specs.View.{spent, first_view}
use Rattle.sl_turn.specs.Rule.{At, Apart, ShareTicket, ShareNumber, BothSplit, IsOut, IsFull, Knows, Kept}
use Rattle.sl_turn.specs.Plays.{HasEnded}
use Rattle.sl_turn.proofs.Prefixes.{append_nothing}
use Rattle.sl_turn.proofs.Books.{numbered_rest, no_rest}
use Rattle.sl_turn.proofs.Seats.{same_at}
use Rattle.sl_turn.proofs.Keeping.{knows_of}

module _ {T S E : Type 0} (subject_of : T → S) (history_of : T → List E) (by : E → ℕ) (legal : S → List E → Type 0) where
  only : (v w : View S E) (j : ℕ) → get_elem? (v ∷ []) j ≡ maybe.some w → (j ≡ 0) × (v ≡ w)
  only v w zero e = (refl, maybe.some-injective v w e)
  only v w (suc j) e = absurd (maybe.some-ne-none w (sym e))

  pub opens : (value : T) → history_of value ≡ [] → legal (subject_of value) []
      → Kept subject_of history_of by legal (subject_of value) (opening (0 ∷ 0 ∷ []) (Some value ∷ []) (first_view (subject_of value)))
  opens value none ok =
      let v : View S E = first_view (subject_of value) in
      let apart : (R : View S E → View S E → Type 0) → Apart R (v ∷ []) = λ R i j a b p q r. (only v a i p).0 ∙ sym (only v b j q).0 in
      record {
        history = [];
        top = 2;
        drawn = 0;
        served = 0;
        words = refl;
        few = omega arith;
        room = omega arith;
        legal_history = ok;
        numbered = tt;
        next_ticket = refl;
        queue = λ j x ticket here has. let is : None ≡ Some ticket = ap (λ (z : View S E). z.ticket) (only v x j here).1 ∙ has in absurd (cc (is));
        tickets_differ = apart ShareTicket;
        one_holder = apart ShareNumber;
        one_splitter = apart BothSplit;
        views = λ j x here. inr (subst (Knows by legal (subject_of value) [] 2) (only v x j here).1 record {
          subject_is = refl;
          begins = ([], refl);
          legal_seen = ok;
          own = ([], inl (refl, refl));
          given_out = λ n h. ⊎_elim (λ (t : (1 ≡ n) × ([] ≡ h.0)). let is = t.0 in (omega arith, omega arith)) (λ no. absurd no) h.1;
          booked = λ n es h. ⊎_elim (λ (t : (1 ≡ n) × ([] ≡ es)). (t.1, t.1)) (λ no. absurd no) h;
          next_is = λ _. refl;
          begins_joined = ([], refl);
        });
        in_turn = λ j x here has. let is : false ≡ true = ap (λ (z : View S E). z.in_turn) (only v x j here).1 ∙ has in absurd (cc (is));
        slot = inl (value, refl, refl, none, (λ j x here. sym (ap (λ (z : View S E). z.in_turn) (only v x j here).1)));
      }

  module _ (subject : S) where
    abbrev Rule : State (Option T) (View S E) → Type 0
    Rule = Kept subject_of history_of by legal subject

    -- a seat that holds every number has seen the whole history
    whole : (s : State (Option T) (View S E)) (r : Rule s) (v : View S E) → Knows by legal subject r.history r.top v → ((n : ℕ) → 1 ≤ n → n < r.top → Holds v.books n) → v.seen ≡ r.history
    whole s r v k all =
        let rest : List E = k.begins.0 in
        let joined : v.seen ++ rest ≡ r.history = k.begins.1 in
        let numbered = numbered_rest by r.top v.seen rest (subst (λ (z : List E). AreNumbered by r.top z) (sym joined) r.numbered) in
        let none : rest ≡ [] = no_rest by r.top rest numbered (λ n a b.
        let h = all n a b in
        let e = k.booked n h.0 h.1 in
        let split : entries_of by n v.seen ++ entries_of by n rest ≡ entries_of by n r.history = sym (filter-append (λ x. by x == n) v.seen rest) ∙ ap (entries_of by n) joined in
        append_nothing (entries_of by n v.seen) (entries_of by n rest) (split ∙ (e.0 ∙ sym e.1))) in
        sym (append-nil v.seen) ∙ (ap (λ z. v.seen ++ z) (sym none) ∙ joined)

    -- what a lock gives at its end to a seat that holds every number
    pub ends : (id : ℕ) (v : View S E) (ws : List ℕ) (xs : List (Option T)) (slot : Option T) → v.in_turn ≡ false → 1 ≤ v.number → v.next ≢ 0 → ((n : ℕ) → 1 ≤ n → n < v.next → Holds v.books n)
        → Final (Seen Rule id v) ws xs → get_elem? xs 0 ≡ maybe.some slot → (value : T) × (slot ≡ Some value) × HasEnded subject_of history_of by subject v value
    ends id v ws xs slot idle some gives all final there =
        let s = final.0 in
        let r : Rule s = final.1.0 in
        let at : At s.views id v = final.1.1 in
        let k = knows_of subject_of history_of by legal subject s r id v at some in
        let next_is : v.next ≡ r.top = k.next_is gives in
        let every : (n : ℕ) → 1 ≤ n → n < r.top → Holds v.books n = (λ n a b. all n a (subst (λ (m : ℕ). n < m) (sym next_is) b)) in
        ⊎_elim
        (λ (f : IsFull subject_of history_of by legal subject r.history s). (
          f.0,
          maybe.some-injective slot (Some f.0) (sym there ∙ final.4 0 (Some f.0) (ap (λ (hs : List (maybe.Option (Option T))). get_elem? hs 0) f.1)),
          record {
            subject_is = f.2;
            history_is = f.3 ∙ sym (whole s r v k every);
            numbered = let P : ℕ × List E → Type 0 = λ z. AreNumbered by z.0 z.1 in subst P (λ i. (sym next_is i, sym f.3 i)) r.numbered;
          },
        ))
        (λ (o : IsOut s).
        let u : View S E = o.1.1 in
        absurd (⊎_elim
        (λ (e : u ≡ spent). let no : u.in_turn ≡ false = ap (λ (z : View S E). z.in_turn) e in let yes = o.1.3 in cc (no, yes))
        (λ (l : Knows by legal subject r.history r.top u).
        let g = l.given_out u.number l.own in
        let same : o.1.0 ≡ id = r.one_holder o.1.0 id u v o.1.2 at (u.number, l.own, every u.number g.0 g.1) in
        let is : u ≡ v = same_at s.views id u v (subst (λ (m : ℕ). At s.views m u) same o.1.2) at in
        let now : v.in_turn ≡ true = ap (λ (z : View S E). z.in_turn) (sym is) ∙ o.1.3 in
        cc (now, idle))
        (r.views o.1.0 u o.1.2)))
        r.slot

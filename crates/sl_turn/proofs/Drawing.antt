-- A seat that draws a ticket, and one that looks, keep the rule.
use Rattle.std.proofs.Common.{◌≡◌, ◌≢◌, ℕ, ◌+◌, ◌%◌, ◌^◌, ◌<◌, ◌≤◌, true, false, List, set, Option, Some, None, slice_index, slice_set, refl, ap, sym, ◌∙◌, subst, inl, inr, ⊎_elim, arith}
use Rattle.std.proofs.Math.Nat.{mod-add-mod}
use mathlib.Core.Option as maybe
use Rattle.atomic_table.specs.Table.{State, Me, keeps, step, Allows}
use Rattle.atomic_table.proofs.Lists.{at_set, one_turn, set_else}
use Rattle.sl_turn.specs.declared.view.View.{View}
use Rattle.sl_turn.specs.Rule.{total, tickets_of, At, live, waiting, ShareTicket, ShareNumber, BothSplit, IsOut, IsFull, Knows, Kept}
use Rattle.sl_turn.specs.Plays.{Draws, Looks}
use Rattle.sl_turn.proofs.Seats.{total_set, apart_set, apart_changed, same_at}
use Rattle.sl_turn.proofs.Keeping.{few_waiting, knows_of, sound_of, unmoved}

module _ {T S E : Type 0} (subject_of : T → S) (history_of : T → List E) (by : E → ℕ) (legal : S → List E → Type 0) (subject : S) where
  abbrev Rule : State (Option T) (View S E) → Type 0
  Rule = Kept subject_of history_of by legal subject

  -- a seat that changes no more than its ticket has its facts still
  ticketed : (history : List E) (top : ℕ) (v : View S E) (ticket : Option ℕ) → Knows by legal subject history top v → Knows by legal subject history top (record v { ticket = ticket })
  ticketed history top v ticket k = record {
    subject_is = k.subject_is;
    begins = k.begins;
    legal_seen = k.legal_seen;
    own = k.own;
    given_out = k.given_out;
    booked = k.booked;
    next_is = k.next_is;
    begins_joined = k.begins_joined;
  }

  -- no waiting seat has the ticket that comes next
  fresh : (s : State (Option T) (View S E)) (r : Rule s) (j : ℕ) (x : View S E) → At s.views j x → x.ticket ≡ Some r.drawn → ⊥
  fresh s r j x at is =
      let q = r.queue j x r.drawn at is in
      let few = few_waiting subject_of history_of by legal subject s r in
      let count : ℕ = total waiting s.views in
      let lt : q.0 < count = q.1 in
      let same : r.served + q.0 ≡ r.served + count = one_turn (r.served + q.0) (r.served + count) (2 ^ 64) (omega arith) (omega arith) (sym q.2 ∙ r.next_ticket) in
      omega arith

  pub draws : (slots id : ℕ) (me : Me (Option T) (View S E)) → 1 ≤ me.0.number → me.0.ticket ≡ None → me.0.in_turn ≡ false
      → Allows Rule slots id me 0 (λ n. (n + 1) % 2 ^ 64) (Draws (step slots 0 1 0 maybe.none) me)
  draws slots id me some none idle s r _ at _ =
      let v : View S E = me.0 in
      let found : ℕ = slice_index s.words 0 in
      let found_is : found ≡ r.drawn = ap (λ (ws : List ℕ). slice_index ws 0) r.words in
      let w : View S E = record v { ticket = Some found } in
      let views : List (View S E) = set s.views id w in
      let before : waiting v ≡ 0 = ap tickets_of none in
      let count : total waiting views + waiting v ≡ total waiting s.views + 1 = total_set waiting s.views id v w at in
      let lives : total live views + live v ≡ total live s.views + live v = total_set live s.views id v w at in
      let room = r.room in
      let more : total waiting views ≡ total waiting s.views + 1 = omega arith in (
        w,
        keeps,
        tt,
        record {
          history = r.history;
          top = r.top;
          drawn = (r.drawn + 1) % 2 ^ 64;
          served = r.served;
          words = ap (λ (ws : List ℕ). slice_set ws 0 ((slice_index ws 0 + 1) % 2 ^ 64)) r.words;
          few = r.few;
          room = omega arith;
          legal_history = r.legal_history;
          numbered = r.numbered;
          next_ticket = ap (λ (k : ℕ). (k + 1) % 2 ^ 64) r.next_ticket ∙ (mod-add-mod (r.served + total waiting s.views) (2 ^ 64) 1 ∙ ap (λ (k : ℕ). k % 2 ^ 64) (omega arith));
          queue = λ j x ticket here is. ⊎_elim
              (λ (t : (j ≡ id) × (w ≡ x)). (
                total waiting s.views,
                omega arith,
                (let own : Some found ≡ Some ticket = ap (λ (z : View S E). z.ticket) t.1 ∙ is in let e : found ≡ ticket = cc (own) in sym e ∙ (found_is ∙ r.next_ticket)),
              ))
              (λ (t : (j ≢ id) × At s.views j x). let q = r.queue j x ticket t.1 is in let lt = q.1 in (q.0, omega arith, q.2))
              (at_set s.views id j w x here);
          tickets_differ = apart_changed ShareTicket s.views id w r.tickets_differ
              (λ j x other here p. fresh s r j x here (let e : found ≡ p.0 = cc (p.1) in p.2 ∙ ap Some (sym e ∙ found_is)))
              (λ j x other here p. fresh s r j x here (let e : found ≡ p.0 = cc (p.2) in p.1 ∙ ap Some (sym e ∙ found_is)));
          one_holder = apart_set ShareNumber s.views id v w at r.one_holder (λ x p. p) (λ x p. p);
          one_splitter = apart_set BothSplit s.views id v w at r.one_splitter (λ x p. p) (λ x p. p);
          views = λ j x here. ⊎_elim
              (λ (t : (j ≡ id) × (w ≡ x)). inr (subst (Knows by legal subject r.history r.top) t.1 (ticketed r.history r.top v (Some found) (knows_of subject_of history_of by legal subject s r id v at some))))
              (λ (t : (j ≢ id) × At s.views j x). r.views j x t.1)
              (at_set s.views id j w x here);
          in_turn = λ j x here is. ⊎_elim
              (λ (t : (j ≡ id) × (w ≡ x)). let e : v.in_turn ≡ true = ap (λ (z : View S E). z.in_turn) t.1 ∙ is in absurd (cc (e, idle)))
              (λ (t : (j ≢ id) × At s.views j x). r.in_turn j x t.1 is)
              (at_set s.views id j w x here);
          slot = ⊎_elim
              (λ (f : IsFull subject_of history_of by legal subject r.history s). inl (
                f.0,
                f.1,
                f.2,
                f.3,
                (λ j x here. ⊎_elim
                    (λ (t : (j ≡ id) × (w ≡ x)). sym (ap (λ (z : View S E). z.in_turn) t.1) ∙ idle)
                    (λ (t : (j ≢ id) × At s.views j x). f.4 j x t.1)
                    (at_set s.views id j w x here)),
              ))
              (λ (o : IsOut s). inr (o.0, (o.1.0, o.1.1, set_else s.views id o.1.0 w (λ e. let same : o.1.1 ≡ v = same_at s.views id o.1.1 v (subst (λ (k : ℕ). At s.views k o.1.1) e o.1.2) at in let now : v.in_turn ≡ true = ap (λ (z : View S E). z.in_turn) (sym same) ∙ o.1.3 in cc (now, idle)) ∙ o.1.2, o.1.3)))
              r.slot;
        },
        refl,
      )

  pub looks : (slots id : ℕ) (me : Me (Option T) (View S E)) → 1 ≤ me.0.number → Allows Rule slots id me 1 (λ n. n) (Looks by legal (step slots 1 0 0 maybe.none) me)
  looks slots id me some s r _ at _ =
      (me.0, keeps, tt, unmoved subject_of history_of by legal subject s r 1 id me.0 me.1 at, (refl, sound_of subject_of history_of by legal subject r.history r.top me.0 (knows_of subject_of history_of by legal subject s r id me.0 at some)))

-- A seat that gives its value back and raises the serving number keeps the rule.
use Rattle.std.proofs.Common.{◌≡◌, ◌≢◌, ℕ, ◌+◌, ◌-◌, ◌%◌, ◌^◌, ◌<◌, ◌≤◌, ◌==◌, if◌then◌else◌, true, false, List, [], ◌∷◌, ◌++◌, length, drop, set, Option, Some, None, slice_index, slice_set, refl, ap, sym, ◌∙◌, subst, inl, inr, ⊎_elim, arith, append-nil, mod-eq_of_lt}
use Rattle.std.proofs.Math.Nat.{mod-add-mod}
use Rattle.std.proofs.lemmas.List.Elements.{filter-append}
use mathlib.Core.Logic.{dite}
use mathlib.Core.Option as maybe
use native.Mathlib.Decide.{ℕ_discrete}
use Rattle.atomic_table.specs.Table.{State, Me, gives, put_back, rest, stepped, step, Allows}
use Rattle.atomic_table.proofs.Lists.{at_set}
use Rattle.def_turn.specs.Pass.{entries_of, HasBook, Holds}
use Rattle.sl_turn.specs.declared.view.View.{View}
use Rattle.sl_turn.specs.View.{given_back}
use Rattle.sl_turn.specs.Rule.{total, tickets_of, At, live, waiting, ShareTicket, ShareNumber, BothSplit, IsOut, IsFull, Knows, Kept}
use Rattle.sl_turn.specs.Plays.{GivesBack}
use Rattle.sl_turn.proofs.Prefixes.{prefix_self, prefix_trans, drop_begun}
use Rattle.sl_turn.proofs.Books.{AreOf, entries_none, entries_after, book_before, holds_before, holds_after, numbered_append, numbered_of}
use Rattle.sl_turn.proofs.Seats.{total_set, apart_set}
use Rattle.sl_turn.proofs.Keeping.{knows_of, not_true}

module _ {T S E : Type 0} (subject_of : T → S) (history_of : T → List E) (by : E → ℕ) (legal : S → List E → Type 0) (subject : S) where
  abbrev Rule : State (Option T) (View S E) → Type 0
  Rule = Kept subject_of history_of by legal subject

  -- the books of the seat in its turn are right after it, in the history and so in what it has seen
  pub booked_after : (history new : List E) (v : View S E) → AreOf by v.number new → v.seen ≡ history → ((n : ℕ) (es : List E) → HasBook v.books n es → entries_of by n history ≡ es)
      → (n : ℕ) (es : List E) → HasBook (given_back (history ++ new) v).books n es → entries_of by n (history ++ new) ≡ es
  booked_after history new v are seen booked n es h =
      let added : List E = drop (length v.seen) (history ++ new) in
      let added_is : added ≡ new = subst (λ (z : List E). drop (length z) (history ++ new) ≡ new) (sym seen) (drop_begun history new) in
      let b = book_before v.number added v.books n es h in
      entries_after by v.number n history new b.0 are (booked n b.0 b.1) ∙ (ap (λ (z : List E). if n == v.number then b.0 ++ z else b.0) (sym added_is) ∙ sym b.2)

  own_knows : (history new : List E) (top : ℕ) (v : View S E) → AreOf by v.number new → v.seen ≡ history → legal subject (history ++ new) → Knows by legal subject history top v
      → Knows by legal subject (history ++ new) top (given_back (history ++ new) v)
  own_knows history new top v are seen ok k =
      let added : List E = drop (length v.seen) (history ++ new) in
      let all = booked_after history new v are seen (λ n es h. (k.booked n es h).0) in
      record {
        subject_is = k.subject_is;
        begins = prefix_self (history ++ new);
        legal_seen = ok;
        own = holds_after v.number added v.books v.number k.own;
        given_out = λ n h. k.given_out n (holds_before v.number added v.books n h);
        booked = λ n es h. let b = all n es h in (b, b);
        next_is = k.next_is;
        begins_joined = prefix_trans v.joined v.seen (history ++ new) k.begins_joined (new, ap (λ (z : List E). z ++ new) seen);
      }

  other_knows : (history new : List E) (top n : ℕ) (x : View S E) → AreOf by n new → (Holds x.books n → ⊥) → Knows by legal subject history top x → Knows by legal subject (history ++ new) top x
  other_knows history new top n x are not k = record {
    subject_is = k.subject_is;
    begins = prefix_trans x.seen history (history ++ new) k.begins (new, refl);
    legal_seen = k.legal_seen;
    own = k.own;
    given_out = k.given_out;
    booked = λ m es h.
        let other : m ≢ n = (λ e. not (es, subst (λ (z : ℕ). HasBook x.books z es) e h)) in
        let none : entries_of by m new ≡ [] = entries_none by n m new are other in
        let b = k.booked m es h in
        (filter-append (λ y. by y == m) history new ∙ (ap (λ w. entries_of by m history ++ w) none ∙ (append-nil (entries_of by m history) ∙ b.0)), b.1);
    next_is = k.next_is;
    begins_joined = k.begins_joined;
  }

  -- the seat in its turn has the slot
  out : (s : State (Option T) (View S E)) (r : Rule s) (id : ℕ) (v : View S E) → At s.views id v → v.in_turn ≡ true → s.homes ≡ maybe.none ∷ []
  out s r id v at now = ⊎_elim
      (λ (f : IsFull subject_of history_of by legal subject r.history s). let no = f.4 id v at in absurd (cc (no, now)))
      (λ (o : IsOut s). o.0)
      r.slot

  module _ (s : State (Option T) (View S E)) (r : Rule s) (id : ℕ) (me : Me (Option T) (View S E)) (value : T) (new : List E)
      (at : At s.views id me.0) (carried : me.1 ≡ (0, Some value) ∷ []) (now : me.0.in_turn ≡ true) (some : 1 ≤ me.0.number) (about : subject_of value ≡ subject)
      (is : history_of value ≡ r.history ++ new) (are : AreOf by me.0.number new) (ok : legal subject (r.history ++ new)) (small : r.served < 18446744073709551616) where
    abbrev w : View S E
    w = given_back (r.history ++ new) me.0

    mine : me.0.ticket ≡ Some r.served
    mine = (r.in_turn id me.0 at now).0

    seen : me.0.seen ≡ r.history
    seen = (r.in_turn id me.0 at now).1

    knows : Knows by legal subject r.history r.top me.0
    knows = knows_of subject_of history_of by legal subject s r id me.0 at some

    apart_from : (j : ℕ) (x : View S E) → j ≢ id → At s.views j x → x.ticket ≡ Some r.served → ⊥
    apart_from j x other here has = other (r.tickets_differ j id x me.0 here at (r.served, has, mine))

    count : total waiting (set s.views id w) + 1 ≡ total waiting s.views
    count = let one : waiting me.0 ≡ 1 = ap tickets_of mine in let sum : total waiting (set s.views id w) + waiting me.0 ≡ total waiting s.views + 0 = total_set waiting s.views id me.0 w at in omega arith

    queue_after : (j : ℕ) (x : View S E) (ticket : ℕ) → j ≢ id → At s.views j x → x.ticket ≡ Some ticket
        → (place : ℕ) × (place < total waiting (set s.views id w)) × (ticket ≡ ((r.served + 1) % 2 ^ 64 + place) % 2 ^ 64)
    queue_after j x ticket other here has =
        let q = r.queue j x ticket here has in
        let before : q.0 < total waiting s.views = q.1 in
        let counted = count in
        dite (ℕ_discrete q.0 0)
        (λ (first : q.0 ≡ 0).
        let sum : r.served + q.0 ≡ r.served = omega arith in
        let is_served : ticket ≡ r.served = q.2 ∙ (ap (λ (k : ℕ). k % 2 ^ 64) sum ∙ mod-eq_of_lt small) in
        absurd (apart_from j x other here (has ∙ ap Some is_served)))
        (λ (later : q.0 ≢ 0).
        let sum : r.served + q.0 ≡ (r.served + 1) + (q.0 - 1) = omega arith in
        (q.0 - 1, omega arith, q.2 ∙ (ap (λ (k : ℕ). k % 2 ^ 64) sum ∙ sym (mod-add-mod (r.served + 1) (2 ^ 64) (q.0 - 1)))))

    raised : Rule (stepped s 1 ((slice_index s.words 1 + 1) % 2 ^ 64) id me.1 w gives)
    raised =
        let v : View S E = me.0 in
        let added : List E = drop (length v.seen) (r.history ++ new) in
        let counted = count in
        let lives : total live (set s.views id w) + live v ≡ total live s.views + live v = total_set live s.views id v w at in
        let room = r.room in
        let given = knows.given_out v.number knows.own in
        let homes : put_back s.homes me.1 ≡ maybe.some (Some value) ∷ [] = λ k. put_back (out s r id v at now k) (carried k) in
        record {
          history = r.history ++ new;
          top = r.top;
          drawn = r.drawn;
          served = (r.served + 1) % 2 ^ 64;
          words = ap (λ (ws : List ℕ). slice_set ws 1 ((slice_index ws 1 + 1) % 2 ^ 64)) r.words;
          few = r.few;
          room = omega arith;
          legal_history = ok;
          numbered = numbered_append by r.top r.history new r.numbered (numbered_of by r.top v.number new given.0 given.1 are);
          next_ticket =
              let sum : r.served + total waiting s.views ≡ (r.served + 1) + total waiting (set s.views id w) = omega arith in
              r.next_ticket ∙ (ap (λ (k : ℕ). k % 2 ^ 64) sum ∙ sym (mod-add-mod (r.served + 1) (2 ^ 64) (total waiting (set s.views id w))));
          queue = λ j x ticket here has. ⊎_elim
              (λ (t : (j ≡ id) × (w ≡ x)). let none : None ≡ Some ticket = ap (λ (z : View S E). z.ticket) t.1 ∙ has in absurd (cc (none)))
              (λ (t : (j ≢ id) × At s.views j x). queue_after j x ticket t.0 t.1 has)
              (at_set s.views id j w x here);
          tickets_differ = apart_set ShareTicket s.views id v w at r.tickets_differ (λ x p. absurd (cc (p.1))) (λ x p. absurd (cc (p.2)));
          one_holder = apart_set ShareNumber s.views id v w at r.one_holder
              (λ x p. (p.0, holds_before v.number added v.books p.0 p.1, p.2))
              (λ x p. (p.0, p.1, holds_before v.number added v.books p.0 p.2));
          one_splitter = apart_set BothSplit s.views id v w at r.one_splitter (λ x p. p) (λ x p. p);
          views = λ j x here. ⊎_elim
              (λ (t : (j ≡ id) × (w ≡ x)). inr (subst (Knows by legal subject (r.history ++ new) r.top) t.1 (own_knows r.history new r.top v are seen ok knows)))
              (λ (t : (j ≢ id) × At s.views j x). ⊎_elim inl
              (λ k. inr (other_knows r.history new r.top v.number x are (λ h. t.0 (r.one_holder j id x v t.1 at (v.number, h, knows.own))) k))
              (r.views j x t.1))
              (at_set s.views id j w x here);
          in_turn = λ j x here has. ⊎_elim
              (λ (t : (j ≡ id) × (w ≡ x)). let no : false ≡ true = ap (λ (z : View S E). z.in_turn) t.1 ∙ has in absurd (cc (no)))
              (λ (t : (j ≢ id) × At s.views j x). absurd (apart_from j x t.0 t.1 (r.in_turn j x t.1 has).0))
              (at_set s.views id j w x here);
          slot = inl (
            value,
            homes,
            about,
            is,
            (λ j x here. ⊎_elim
                (λ (t : (j ≡ id) × (w ≡ x)). sym (ap (λ (z : View S E). z.in_turn) t.1))
                (λ (t : (j ≢ id) × At s.views j x). not_true x.in_turn (λ has. apart_from j x t.0 t.1 (r.in_turn j x t.1 has).0))
                (at_set s.views id j w x here)),
          );
        }

  pub raises : (slots id : ℕ) (me : Me (Option T) (View S E)) (value : T) (new : List E) → me.1 ≡ (0, Some value) ∷ [] → me.0.in_turn ≡ true → 1 ≤ me.0.number
      → me.0.subject ≡ Some (subject_of value) → history_of value ≡ me.0.seen ++ new → AreOf by me.0.number new → legal (subject_of value) (history_of value)
      → Allows Rule slots id me 1 (λ n. (n + 1) % 2 ^ 64) (GivesBack history_of (step slots 1 1 0 maybe.none) me)
  raises slots id me value new carried now some subject_is is are ok s r _ at small =
      let found_is : slice_index s.words 1 ≡ r.served = ap (λ (ws : List ℕ). slice_index ws 1) r.words in
      let less : r.served < 18446744073709551616 = subst (λ (k : ℕ). k < 18446744073709551616) found_is small in
      let k = knows_of subject_of history_of by legal subject s r id me.0 at some in
      let about : subject_of value ≡ subject = cc (subject_is, k.subject_is) in
      let seen_is : me.0.seen ≡ r.history = (r.in_turn id me.0 at now).1 in
      let all : history_of value ≡ r.history ++ new = is ∙ ap (λ (z : List E). z ++ new) seen_is in
      let fine : legal subject (r.history ++ new) = let P : S × List E → Type 0 = λ z. legal z.0 z.1 in subst P (λ i. (about i, all i)) ok in (
        given_back (r.history ++ new) me.0,
        gives,
        tt,
        raised s r id me value new at carried now some about all are fine less,
        (λ other same.
            let pair : Path (ℕ × Option T) (0, Some value) (0, Some other) = cc (carried, same) in
            let option : Path (Option T) (Some value) (Some other) = ap (λ (z : ℕ × Option T). z.1) pair in
            let e : value ≡ other = cc (option) in
            λ i. (given_back ((sym all ∙ ap history_of e) i) me.0, rest (carried i))),
      )

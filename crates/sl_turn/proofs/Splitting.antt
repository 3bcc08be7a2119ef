-- A seat that gives out its next number keeps the rule.
use Rattle.std.proofs.Common.{◌≡◌, ◌≢◌, ◌⊎◌, ℕ, ◌+◌, ◌%◌, ◌^◌, ◌<◌, ◌≤◌, true, false, List, [], ◌∷◌, ◌++◌, length, set, Option, Some, None, refl, ap, sym, ◌∙◌, subst, inl, inr, ⊎_elim, arith}
use Rattle.atomic_table.specs.Table.{State, Splits}
use Rattle.atomic_table.proofs.Lists.{at_set, at_longer, set_else}
use Rattle.def_turn.specs.Pass.{entries_of, Holds}
use Rattle.sl_turn.specs.declared.view.View.{View}
use Rattle.sl_turn.specs.View.{spent, splitting, split_off}
use Rattle.sl_turn.specs.Rule.{total, At, live, waiting, ShareTicket, ShareNumber, BothSplit, IsOut, IsFull, Knows, Kept}
use Rattle.sl_turn.proofs.Books.{entries_later, none_begins, numbered_more}
use Rattle.sl_turn.proofs.Seats.{total_set, total_end, at_end, apart_set, apart_end, same_at}
use Rattle.sl_turn.proofs.Keeping.{knows_of}

module _ {T S E : Type 0} (subject_of : T → S) (history_of : T → List E) (by : E → ℕ) (legal : S → List E → Type 0) (subject : S) where
  abbrev Rule : State (Option T) (View S E) → Type 0
  Rule = Kept subject_of history_of by legal subject

  module _ (s : State (Option T) (View S E)) (r : Rule s) (id : ℕ) (v : View S E) (at : At s.views id v) (some : 1 ≤ v.number) (none : v.ticket ≡ None) (idle : v.in_turn ≡ false)
      (gives : v.next ≢ 0) (room_left : v.next < 4294967295) where
    abbrev w : View S E
    w = splitting v

    abbrev new : View S E
    new = split_off v

    abbrev views : List (View S E)
    views = set s.views id w

    knows : Knows by legal subject r.history r.top v
    knows = knows_of subject_of history_of by legal subject s r id v at some

    next_is : v.next ≡ r.top
    next_is = knows.next_is gives

    -- what an unspent view knows when one more number is given out
    more : (x : View S E) → (x.next ≢ 0 → x.next ≡ r.top + 1) → Knows by legal subject r.history r.top x → Knows by legal subject r.history (r.top + 1) x
    more x next k = record {
      subject_is = k.subject_is;
      begins = k.begins;
      legal_seen = k.legal_seen;
      own = k.own;
      given_out = λ n h. let g = k.given_out n h in let lt = g.1 in (g.0, omega arith);
      booked = k.booked;
      next_is = next;
      begins_joined = k.begins_joined;
    }

    own_more : Knows by legal subject r.history (r.top + 1) w
    own_more = let k = knows in record {
      subject_is = k.subject_is;
      begins = k.begins;
      legal_seen = k.legal_seen;
      own = k.own;
      given_out = λ n h. let g = k.given_out n h in let lt = g.1 in (g.0, omega arith);
      booked = k.booked;
      next_is = λ _. ap (λ (n : ℕ). n + 1) next_is;
      begins_joined = k.begins_joined;
    }

    new_knows : Knows by legal subject r.history (r.top + 1) new
    new_knows =
        let k = knows in
        let own = k.given_out v.number k.own in
        let least : 1 ≤ v.number = own.0 in
        let below : v.number < r.top = own.1 in
        let later : entries_of by v.next r.history ≡ [] = subst (λ (n : ℕ). entries_of by n r.history ≡ []) (sym next_is) (entries_later by r.top r.history r.numbered) in
        record {
          subject_is = k.subject_is;
          begins = k.begins;
          legal_seen = k.legal_seen;
          own = ([], inl (refl, refl));
          given_out = λ n h. ⊎_elim (λ (t : (v.next ≡ n) × ([] ≡ h.0)). let is : n ≡ r.top = sym t.0 ∙ next_is in (omega arith, omega arith)) (λ no. absurd no) h.1;
          booked = λ n es h. ⊎_elim
              (λ (t : (v.next ≡ n) × ([] ≡ es)). (
                subst (λ (m : ℕ). entries_of by m r.history ≡ es) t.0 (later ∙ t.1),
                subst (λ (m : ℕ). entries_of by m v.seen ≡ es) t.0 (none_begins by v.next v.seen r.history k.begins later ∙ t.1),
              ))
              (λ no. absurd no) h;
          next_is = λ no. absurd (no refl);
          begins_joined = (v.seen, refl);
        }

    no_number : (x : View S E) (j : ℕ) → At views j x → Holds x.books v.next → ⊥
    no_number x j here h = ⊎_elim
        (λ (t : (j ≡ id) × (w ≡ x)). let held : Holds v.books v.next = subst (λ (z : View S E). Holds z.books v.next) (sym t.1) h in let lt = (knows.given_out v.next held).1 in let is = next_is in omega arith)
        (λ (t : (j ≢ id) × At s.views j x). ⊎_elim
        (λ (e : x ≡ spent). let held : Holds {E = E} [] v.next = subst (λ (z : View S E). Holds z.books v.next) e h in absurd held.1)
        (λ (k : Knows by legal subject r.history r.top x). let lt = (k.given_out v.next h).1 in let is = next_is in omega arith)
        (r.views j x t.1))
        (at_set s.views id j w x here)

    of_new : (n : ℕ) → Holds new.books n → v.next ≡ n
    of_new n h = ⊎_elim (λ (t : (v.next ≡ n) × ([] ≡ h.0)). t.0) (λ no. absurd no) h.1

    at_either : (P : ℕ → View S E → Type 0) → P id w → ((j : ℕ) (x : View S E) → j ≢ id → At s.views j x → P j x) → P (length views) new
        → (j : ℕ) (x : View S E) → At (views ++ new ∷ []) j x → P j x
    at_either P mine others last j x here = ⊎_elim
        (λ (h : At views j x). ⊎_elim
        (λ (t : (j ≡ id) × (w ≡ x)). subst (λ (z : ℕ × View S E). P z.0 z.1) (λ k. (sym t.0 k, t.1 k)) mine)
        (λ (t : (j ≢ id) × At s.views j x). others j x t.0 t.1)
        (at_set s.views id j w x h))
        (λ (t : (j ≡ length views) × (new ≡ x)). subst (λ (z : ℕ × View S E). P z.0 z.1) (λ k. (sym t.0 k, t.1 k)) last)
        (at_end views new x j here)

    split_kept : Rule record { words = s.words; homes = s.homes; views = views ++ new ∷ [] }
    split_kept =
        let is = next_is in
        let room = r.room in
        let lives : total live views + live v ≡ total live s.views + live v = total_set live s.views id v w at in
        let lives_end : total live (views ++ new ∷ []) ≡ total live views + live new = total_end live views new in
        let count : total waiting views + waiting v ≡ total waiting s.views + waiting v = total_set waiting s.views id v w at in
        let count_end : total waiting (views ++ new ∷ []) ≡ total waiting views + 0 = total_end waiting views new in
        let same : total waiting (views ++ new ∷ []) ≡ total waiting s.views = omega arith in
        record {
          history = r.history;
          top = r.top + 1;
          drawn = r.drawn;
          served = r.served;
          words = r.words;
          few = omega arith;
          room = omega arith;
          legal_history = r.legal_history;
          numbered = numbered_more by r.top (r.top + 1) r.history (omega arith) r.numbered;
          next_ticket = r.next_ticket ∙ ap (λ (k : ℕ). (r.served + k) % 2 ^ 64) (sym same);
          queue = λ j x ticket here has. at_either
              (λ k y. y.ticket ≡ Some ticket → (place : ℕ) × (place < total waiting (views ++ new ∷ [])) × (ticket ≡ (r.served + place) % 2 ^ 64))
              (λ e. absurd (cc (none, e)))
              (λ k y other h e. let q = r.queue k y ticket h e in let lt = q.1 in (q.0, omega arith, q.2))
              (λ e. absurd (cc (e)))
              j x here has;
          tickets_differ = apart_end ShareTicket views new (apart_set ShareTicket s.views id v w at r.tickets_differ (λ x p. p) (λ x p. p)) (λ j x _ p. absurd (cc (p.1))) (λ j x _ p. absurd (cc (p.2)));
          one_holder = apart_end ShareNumber views new (apart_set ShareNumber s.views id v w at r.one_holder (λ x p. p) (λ x p. p))
              (λ j x h p. no_number x j h (subst (Holds x.books) (sym (of_new p.0 p.1)) p.2))
              (λ j x h p. no_number x j h (subst (Holds x.books) (sym (of_new p.0 p.2)) p.1));
          one_splitter = apart_end BothSplit views new (apart_set BothSplit s.views id v w at r.one_splitter (λ x p. (gives, p.1)) (λ x p. (p.0, gives)))
              (λ j x _ p. absurd (p.0 refl)) (λ j x _ p. absurd (p.1 refl));
          views = at_either (λ k y. (y ≡ spent) ⊎ Knows by legal subject r.history (r.top + 1) y)
              (inr own_more)
              (λ k y other h. ⊎_elim inl (λ kn. inr (more y (λ both. absurd (other (r.one_splitter k id y v h at (both, gives)))) kn)) (r.views k y h))
              (inr new_knows);
          in_turn = at_either (λ k y. y.in_turn ≡ true → (y.ticket ≡ Some r.served) × (y.seen ≡ r.history))
              (λ e. absurd (cc (idle, e)))
              (λ k y _ h e. r.in_turn k y h e)
              (λ e. absurd (cc (e)));
          slot = ⊎_elim
              (λ (f : IsFull subject_of history_of by legal subject r.history s). inl (f.0, f.1, f.2, f.3, at_either (λ k y. y.in_turn ≡ false) idle (λ k y _ h. f.4 k y h) refl))
              (λ (o : IsOut s). inr (
                o.0,
                (
                  o.1.0,
                  o.1.1,
                  at_longer views (new ∷ []) o.1.0 o.1.1 (set_else s.views id o.1.0 w
                      (λ e. let u : o.1.1 ≡ v = same_at s.views id o.1.1 v (subst (λ (k : ℕ). At s.views k o.1.1) e o.1.2) at in
                      let now : v.in_turn ≡ true = ap (λ (z : View S E). z.in_turn) (sym u) ∙ o.1.3 in cc (now, idle)) ∙ o.1.2),
                  o.1.3,
                ),
              ))
              r.slot;
        }

  pub splits : (id : ℕ) (v : View S E) → 1 ≤ v.number → v.ticket ≡ None → v.in_turn ≡ false → v.next ≢ 0 → v.next < 4294967295
      → Splits Rule id v (splitting v) (split_off v)
  splits id v some none idle gives room_left s r at = split_kept s r id v at some none idle gives room_left

-- A seat that takes in what another knows keeps the rule.
use Rattle.std.proofs.Common.{◌≡◌, ◌≢◌, ◌⊎◌, ℕ, ◌+◌, ◌%◌, ◌^◌, ◌<◌, ◌≤◌, max, true, false, List, set, Option, Some, None, refl, ap, sym, ◌∙◌, subst, inl, inr, ⊎_elim, arith}
use mathlib.Core.Logic.{dite}
use mathlib.Core.List.{IsPrefix}
use native.Mathlib.Decide.{ℕ_discrete}
use Rattle.atomic_table.specs.Table.{State, Joins}
use Rattle.atomic_table.proofs.Lists.{set_else}
use Rattle.def_turn.specs.Pass.{HasBook, longer}
use Rattle.sl_turn.specs.declared.view.View.{View}
use Rattle.sl_turn.specs.View.{spent, joining, shorter}
use Rattle.sl_turn.specs.Rule.{total, tickets_of, At, live, waiting, ShareTicket, ShareNumber, BothSplit, IsOut, IsFull, Knows, Kept}
use Rattle.sl_turn.proofs.Prefixes.{shorter_longer, both_begin, of_longer}
use Rattle.sl_turn.proofs.Books.{book_left, book_either, holds_either, between}
use Rattle.sl_turn.proofs.Seats.{total_set, at_joined, apart_joined, same_at}
use Rattle.sl_turn.proofs.Keeping.{knows_of}

module _ {T S E : Type 0} (subject_of : T → S) (history_of : T → List E) (by : E → ℕ) (legal : S → List E → Type 0) (subject : S) where
  abbrev Rule : State (Option T) (View S E) → Type 0
  Rule = Kept subject_of history_of by legal subject

  joined_knows : (history : List E) (top : ℕ) (v u : View S E) → Knows by legal subject history top v → Knows by legal subject history top u
      → Knows by legal subject history top (joining v u)
  joined_knows history top v u k l =
      let seen : List E = longer v.seen u.seen in
      let short : IsPrefix (shorter v.seen u.seen) seen = shorter_longer v.seen u.seen history k.begins l.begins in
      let both = both_begin v.seen u.seen short in
      let begins : IsPrefix seen history = of_longer (λ (z : List E). IsPrefix z history) v.seen u.seen k.begins l.begins in
      record {
        subject_is = k.subject_is;
        begins = begins;
        legal_seen = of_longer (legal subject) v.seen u.seen k.legal_seen l.legal_seen;
        own = (k.own.0, book_left v.books u.books v.number k.own.0 k.own.1);
        given_out = λ n h. ⊎_elim (k.given_out n) (l.given_out n) (holds_either v.books u.books n h);
        booked = λ n es h. ⊎_elim
            (λ (t : HasBook v.books n es). let b = k.booked n es t in (b.0, between by n v.seen seen history es both.0 begins b.1 b.0))
            (λ (t : HasBook u.books n es). let b = l.booked n es t in (b.0, between by n u.seen seen history es both.1 begins b.1 b.0))
            (book_either v.books u.books n es h);
        next_is = λ some. dite (ℕ_discrete v.next 0)
            (λ none. dite (ℕ_discrete u.next 0) (λ none'. absurd (some (omega arith))) (λ some'. let is = l.next_is some' in omega arith))
            (λ some'. let is = k.next_is some' in dite (ℕ_discrete u.next 0) (λ none'. omega arith) (λ some''. let is' = l.next_is some'' in omega arith));
        begins_joined = short;
      }

  module _ (s : State (Option T) (View S E)) (r : Rule s) (id other : ℕ) (v u : View S E) (at : At s.views id v) (apart : other ≢ id) (at' : At s.views other u)
      (some : 1 ≤ v.number) (some' : 1 ≤ u.number) (none : v.ticket ≡ None) (none' : u.ticket ≡ None) (idle : v.in_turn ≡ false) (idle' : u.in_turn ≡ false)
      (next_or : (max v.next u.next ≢ 0) → (v.next ≢ 0) ⊎ (u.next ≢ 0)) where
    abbrev w : View S E
    w = joining v u

    abbrev halfway : List (View S E)
    halfway = set s.views id w

    abbrev views : List (View S E)
    views = set halfway other spent

    at_any : (P : ℕ → View S E → Type 0) → P other spent → P id w → ((j : ℕ) (x : View S E) → j ≢ other → j ≢ id → At s.views j x → P j x)
        → (j : ℕ) (x : View S E) → At views j x → P j x
    at_any P gone mine others j x here = ⊎_elim
        (λ (t : (j ≡ other) × (spent ≡ x)). subst (λ (z : ℕ × View S E). P z.0 z.1) (λ k. (sym t.0 k, t.1 k)) gone)
        (λ t. ⊎_elim
        (λ (h : (j ≡ id) × (w ≡ x)). subst (λ (z : ℕ × View S E). P z.0 z.1) (λ k. (sym h.0 k, h.1 k)) mine)
        (λ (h : (j ≢ other) × (j ≢ id) × At s.views j x). others j x h.0 h.1 h.2)
        t)
        (at_joined s.views id other w spent j x here)

    still : (j : ℕ) (x : View S E) → At s.views j x → x.in_turn ≡ true → At views j x
    still j x here now =
        set_else halfway other j spent (λ e. let same : x ≡ u = same_at s.views other x u (subst (λ (k : ℕ). At s.views k x) e here) at' in
        let on : u.in_turn ≡ true = ap (λ (z : View S E). z.in_turn) (sym same) ∙ now in cc (on, idle'))
        ∙ (set_else s.views id j w (λ e. let same : x ≡ v = same_at s.views id x v (subst (λ (k : ℕ). At s.views k x) e here) at in
        let on : v.in_turn ≡ true = ap (λ (z : View S E). z.in_turn) (sym same) ∙ now in cc (on, idle))
        ∙ here)

    joined_kept : Rule record { words = s.words; homes = s.homes; views = views }
    joined_kept =
        let k = knows_of subject_of history_of by legal subject s r id v at some in
        let l = knows_of subject_of history_of by legal subject s r other u at' some' in
        let room = r.room in
        let there : At halfway other u = set_else s.views id other w apart ∙ at' in
        let lives : total live halfway + live v ≡ total live s.views + live v = total_set live s.views id v w at in
        let lives_end : total live views + live u ≡ total live halfway + 0 = total_set live halfway other u spent there in
        let count : total waiting halfway + waiting v ≡ total waiting s.views + waiting v = total_set waiting s.views id v w at in
        let waits : waiting u ≡ 0 = ap tickets_of none' in
        let count_end : total waiting views + waiting u ≡ total waiting halfway + 0 = total_set waiting halfway other u spent there in
        let same : total waiting views ≡ total waiting s.views = omega arith in
        record {
          history = r.history;
          top = r.top;
          drawn = r.drawn;
          served = r.served;
          words = r.words;
          few = r.few;
          room = omega arith;
          legal_history = r.legal_history;
          numbered = r.numbered;
          next_ticket = r.next_ticket ∙ ap (λ (n : ℕ). (r.served + n) % 2 ^ 64) (sym same);
          queue = λ j x ticket here has. at_any
              (λ i y. y.ticket ≡ Some ticket → (place : ℕ) × (place < total waiting views) × (ticket ≡ (r.served + place) % 2 ^ 64))
              (λ e. absurd (cc (e)))
              (λ e. absurd (cc (none, e)))
              (λ i y _ _ h e. let q = r.queue i y ticket h e in let lt = q.1 in (q.0, omega arith, q.2))
              j x here has;
          tickets_differ = apart_joined ShareTicket s.views id other v u w spent at at' r.tickets_differ (λ x p. absurd (cc (p.1))) (λ x p. absurd (cc (p.2))) (λ x p. inl p) (λ x p. inl p);
          one_holder = apart_joined ShareNumber s.views id other v u w spent at at' r.one_holder (λ x p. absurd (p.1.1)) (λ x p. absurd (p.2.1))
              (λ x p. ⊎_elim (λ h. inl (p.0, h, p.2)) (λ h. inr (p.0, h, p.2)) (holds_either v.books u.books p.0 p.1))
              (λ x p. ⊎_elim (λ h. inl (p.0, p.1, h)) (λ h. inr (p.0, p.1, h)) (holds_either v.books u.books p.0 p.2));
          one_splitter = apart_joined BothSplit s.views id other v u w spent at at' r.one_splitter (λ x p. absurd (p.0 refl)) (λ x p. absurd (p.1 refl))
              (λ x p. ⊎_elim (λ h. inl (h, p.1)) (λ h. inr (h, p.1)) (next_or p.0))
              (λ x p. ⊎_elim (λ h. inl (p.0, h)) (λ h. inr (p.0, h)) (next_or p.1));
          views = at_any (λ i y. (y ≡ spent) ⊎ Knows by legal subject r.history r.top y) (inl refl) (inr (joined_knows r.history r.top v u k l)) (λ i y _ _ h. r.views i y h);
          in_turn = at_any (λ i y. y.in_turn ≡ true → (y.ticket ≡ Some r.served) × (y.seen ≡ r.history))
              (λ e. absurd (cc (e)))
              (λ e. absurd (cc (idle, e)))
              (λ i y _ _ h e. r.in_turn i y h e);
          slot = ⊎_elim
              (λ (f : IsFull subject_of history_of by legal subject r.history s). inl (f.0, f.1, f.2, f.3, at_any (λ i y. y.in_turn ≡ false) refl idle (λ i y _ _ h. f.4 i y h)))
              (λ (o : IsOut s). inr (o.0, (o.1.0, o.1.1, still o.1.0 o.1.1 o.1.2 o.1.3, o.1.3)))
              r.slot;
        }

  either_next : (a b : ℕ) → max a b ≢ 0 → (a ≢ 0) ⊎ (b ≢ 0)
  either_next a b some = dite (ℕ_discrete a 0) (λ e. inr (λ f. some (omega arith))) (λ n. inl n)

  pub joins : (id : ℕ) (v : View S E) (other : ℕ) (u : View S E) → 1 ≤ v.number → v.ticket ≡ None → v.in_turn ≡ false → 1 ≤ u.number → u.ticket ≡ None → u.in_turn ≡ false
      → Joins Rule id v other u (joining v u) spent
  joins id v other u some none idle some' none' idle' s r at apart there =
      let at' : At s.views other u = sym (set_else s.views id other (joining v u) apart) ∙ there in
      joined_kept s r id other v u at apart at' some some' none none' idle idle' (either_next v.next u.next)

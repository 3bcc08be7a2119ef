-- A waiting seat that loads the serving number keeps the rule, and where the number is its ticket it takes the value.
use Rattle.std.proofs.Common.{◌≡◌, ◌≢◌, ℕ, ◌+◌, ◌%◌, ◌^◌, ◌≤◌, true, false, List, [], ◌∷◌, set, Option, Some, slice_index, slice_set, refl, ap, sym, ◌∙◌, subst, inr, ⊎_elim, arith}
use mathlib.Core.Logic.{dite}
use mathlib.Core.List.{IsPrefix}
use mathlib.Core.Option as maybe
use native.Mathlib.Decide.{ℕ_discrete}
use lib.ListN.{get_elem?}
use Rattle.atomic_table.specs.Table.{State, Me, keeps, takes, stepped, step, Allows}
use Rattle.atomic_table.proofs.Lists.{at_set, set_here}
use Rattle.def_turn.specs.Pass.{entries_of}
use Rattle.sl_turn.specs.declared.view.View.{View}
use Rattle.sl_turn.specs.Rule.{total, At, live, waiting, ShareTicket, ShareNumber, BothSplit, IsOut, IsFull, Knows, Kept}
use Rattle.sl_turn.specs.Plays.{HasTaken, Enters}
use Rattle.sl_turn.proofs.Prefixes.{prefix_self, prefix_trans}
use Rattle.sl_turn.proofs.Seats.{total_set, at_inside, apart_set, same_at}
use Rattle.sl_turn.proofs.Keeping.{knows_of, unmoved}

module _ {T S E : Type 0} (subject_of : T → S) (history_of : T → List E) (by : E → ℕ) (legal : S → List E → Type 0) (subject : S) where
  abbrev Rule : State (Option T) (View S E) → Type 0
  Rule = Kept subject_of history_of by legal subject

  abbrev entered : T → View S E → View S E
  entered value v = record v { seen = history_of value; in_turn = true }

  enters_knows : (history : List E) (top : ℕ) (v : View S E) (value : T) → history_of value ≡ history → legal subject history → Knows by legal subject history top v
      → Knows by legal subject history top (entered value v)
  enters_knows history top v value is ok k = record {
    subject_is = k.subject_is;
    begins = subst (λ (h : List E). IsPrefix h history) (sym is) (prefix_self history);
    legal_seen = subst (legal subject) (sym is) ok;
    own = k.own;
    given_out = k.given_out;
    booked = λ n es h. let b = (k.booked n es h).0 in (b, ap (entries_of by n) is ∙ b);
    next_is = k.next_is;
    begins_joined = subst (IsPrefix v.joined) (sym is) (prefix_trans v.joined v.seen history k.begins_joined k.begins);
  }

  taken : (history : List E) (top : ℕ) (me : Me (Option T) (View S E)) (value : T) → me.1 ≡ [] → subject_of value ≡ subject → history_of value ≡ history → legal subject history
      → Knows by legal subject history top me.0 → HasTaken subject_of history_of by legal me (entered value me.0, (0, Some value) ∷ me.1)
  taken history top me value nothing about is ok k = record {
    value = value;
    carried = ap (λ (c : List (ℕ × Option T)). (0, Some value) ∷ c) nothing;
    view = refl;
    subject = k.subject_is ∙ ap Some (sym about);
    legal_history = let P : S × List E → Type 0 = λ z. legal z.0 z.1 in subst P (λ i. (sym about i, sym is i)) ok;
    begins = subst (IsPrefix me.0.seen) (sym is) k.begins;
    booked = λ n es h. ap (entries_of by n) is ∙ (k.booked n es h).0;
    own = let b = k.booked me.0.number k.own.0 k.own.1 in ap (entries_of by me.0.number) is ∙ (b.0 ∙ sym b.1);
  }

  -- a waiting seat whose ticket is served finds the slot full
  full : (s : State (Option T) (View S E)) (r : Rule s) (id : ℕ) (v : View S E) → At s.views id v → v.ticket ≡ Some r.served → v.in_turn ≡ false
      → IsFull subject_of history_of by legal subject r.history s
  full s r id v at mine idle = ⊎_elim (λ f. f)
      (λ (o : IsOut s).
      let u : View S E = o.1.1 in
      let other : u.ticket ≡ Some r.served = (r.in_turn o.1.0 u o.1.2 o.1.3).0 in
      let same : o.1.0 ≡ id = r.tickets_differ o.1.0 id u v o.1.2 at (r.served, other, mine) in
      let is : u ≡ v = same_at s.views id u v (subst (λ (k : ℕ). At s.views k u) same o.1.2) at in
      let now : v.in_turn ≡ true = ap (λ (z : View S E). z.in_turn) (sym is) ∙ o.1.3 in
      absurd (cc (now, idle)))
      r.slot

  enters_kept : (s : State (Option T) (View S E)) (r : Rule s) (id : ℕ) (me : Me (Option T) (View S E)) → At s.views id me.0 → 1 ≤ me.0.number → me.0.ticket ≡ Some r.served
      → (f : IsFull subject_of history_of by legal subject r.history s) → Rule (stepped s 1 (slice_index s.words 1) id me.1 (entered f.0 me.0) (takes 0 (Some f.0)))
  enters_kept s r id me at some mine f =
      let v : View S E = me.0 in
      let w : View S E = entered f.0 v in
      let views : List (View S E) = set s.views id w in
      let count : total waiting views + waiting v ≡ total waiting s.views + waiting v = total_set waiting s.views id v w at in
      let same : total waiting views ≡ total waiting s.views = omega arith in
      let lives : total live views + live v ≡ total live s.views + live v = total_set live s.views id v w at in
      let room = r.room in
      record {
        history = r.history;
        top = r.top;
        drawn = r.drawn;
        served = r.served;
        words = ap (λ (ws : List ℕ). slice_set ws 1 (slice_index ws 1)) r.words;
        few = r.few;
        room = omega arith;
        legal_history = r.legal_history;
        numbered = r.numbered;
        next_ticket = r.next_ticket ∙ ap (λ (k : ℕ). (r.served + k) % 2 ^ 64) (sym same);
        queue = λ j x ticket here is. ⊎_elim
            (λ (t : (j ≡ id) × (w ≡ x)). let q = r.queue id v ticket at (ap (λ (z : View S E). z.ticket) t.1 ∙ is) in let lt = q.1 in (q.0, omega arith, q.2))
            (λ (t : (j ≢ id) × At s.views j x). let q = r.queue j x ticket t.1 is in let lt = q.1 in (q.0, omega arith, q.2))
            (at_set s.views id j w x here);
        tickets_differ = apart_set ShareTicket s.views id v w at r.tickets_differ (λ x p. p) (λ x p. p);
        one_holder = apart_set ShareNumber s.views id v w at r.one_holder (λ x p. p) (λ x p. p);
        one_splitter = apart_set BothSplit s.views id v w at r.one_splitter (λ x p. p) (λ x p. p);
        views = λ j x here. ⊎_elim
            (λ (t : (j ≡ id) × (w ≡ x)). inr (subst (Knows by legal subject r.history r.top) t.1
            (enters_knows r.history r.top v f.0 f.3 r.legal_history (knows_of subject_of history_of by legal subject s r id v at some))))
            (λ (t : (j ≢ id) × At s.views j x). r.views j x t.1)
            (at_set s.views id j w x here);
        in_turn = λ j x here is. ⊎_elim
            (λ (t : (j ≡ id) × (w ≡ x)). (sym (ap (λ (z : View S E). z.ticket) t.1) ∙ mine, sym (ap (λ (z : View S E). z.seen) t.1) ∙ f.3))
            (λ (t : (j ≢ id) × At s.views j x). let no = f.4 j x t.1 in absurd (cc (no, is)))
            (at_set s.views id j w x here);
        slot = inr (ap (λ (hs : List (maybe.Option (Option T))). slice_set hs 0 maybe.none) f.1, (id, w, set_here s.views id w (at_inside s.views id v at), refl));
      }

  pub enters : (slots id : ℕ) (me : Me (Option T) (View S E)) (ticket : ℕ) → 1 ≤ me.0.number → me.0.ticket ≡ Some ticket → me.0.in_turn ≡ false → me.1 ≡ []
      → Allows Rule slots id me 1 (λ n. n) (Enters subject_of history_of by legal (step slots 1 0 0 maybe.none) me)
  enters slots id me ticket some has idle nothing s r _ at _ =
      let found : ℕ = slice_index s.words 1 in
      let found_is : found ≡ r.served = ap (λ (ws : List ℕ). slice_index ws 1) r.words in
      dite (ℕ_discrete ticket found)
      (λ (hit : ticket ≡ found).
      let mine : me.0.ticket ≡ Some r.served = has ∙ ap Some (hit ∙ found_is) in
      let f = full s r id me.0 at mine idle in
      let k = knows_of subject_of history_of by legal subject s r id me.0 at some in (
        entered f.0 me.0,
        takes 0 (Some f.0),
        ap (λ (hs : List (maybe.Option (Option T))). get_elem? hs 0) f.1,
        enters_kept s r id me at some mine f,
        ((λ _. taken r.history r.top me f.0 nothing f.2 f.3 r.legal_history k), (λ no. absurd (no (has ∙ ap Some hit)))),
      ))
      (λ (miss : ticket ≢ found). (
        me.0,
        keeps,
        tt,
        unmoved subject_of history_of by legal subject s r 1 id me.0 me.1 at,
        ((λ is. absurd (miss (cc (has, is)))), (λ _. refl)),
      ))

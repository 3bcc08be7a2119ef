-- What follows from the rule, and a step that changes nothing.
use Rattle.std.proofs.Common.{◌≡◌, ℕ, ◌^◌, ◌<◌, ◌≤◌, Bool, true, false, List, set, Option, Some, None, slice_index, refl, ap, sym, subst, ⊎_elim, arith}
use lib.Seq.{set-get_or}
use Rattle.atomic_table.specs.Table.{State, keeps, stepped}
use Rattle.atomic_table.proofs.Lists.{set_again}
use Rattle.sl_turn.specs.declared.view.View.{View}
use Rattle.sl_turn.specs.View.{spent}
use Rattle.sl_turn.specs.Rule.{total, tickets_of, At, live, waiting, Knows, Kept}
use Rattle.sl_turn.specs.Plays.{IsSound}
use Rattle.sl_turn.proofs.Seats.{total_le}

pub at_most_one : (o : Option ℕ) → tickets_of o ≤ 1
at_most_one None = omega arith
at_most_one (Some t) = omega arith

pub not_true : (b : Bool) → (b ≡ true → ⊥) → b ≡ false
not_true true h = absurd (h refl)
not_true false h = refl

module _ {T S E : Type 0} (subject_of : T → S) (history_of : T → List E) (by : E → ℕ) (legal : S → List E → Type 0) (subject : S) where
  abbrev Rule : State (Option T) (View S E) → Type 0
  Rule = Kept subject_of history_of by legal subject

  -- no more seats wait than numbers were given out
  pub few_waiting : (s : State (Option T) (View S E)) → Rule s → total waiting s.views < 2 ^ 32
  few_waiting s r =
      let le : total waiting s.views ≤ total live s.views = total_le waiting live s.views (λ j v at. ⊎_elim
      (λ (e : v ≡ spent). subst (λ (z : View S E). waiting z ≤ live z) (sym e) (omega arith))
      (λ (k : Knows by legal subject r.history r.top v). let one = (k.given_out v.number k.own).0 in let most = at_most_one v.ticket in omega arith)
      (r.views j v at)) in
      let room = r.room in let few = r.few in omega arith

  -- a view with a number is not spent
  pub knows_of : (s : State (Option T) (View S E)) (r : Rule s) (id : ℕ) (v : View S E) → At s.views id v → 1 ≤ v.number → Knows by legal subject r.history r.top v
  knows_of s r id v at some = ⊎_elim
      (λ (e : v ≡ spent). let none : v.number ≡ 0 = ap (λ (z : View S E). z.number) e in absurd (omega arith))
      (λ k. k)
      (r.views id v at)

  pub sound_of : (history : List E) (top : ℕ) (v : View S E) → Knows by legal subject history top v → IsSound by legal v
  sound_of history top v k = record {
    legal_seen = λ other is. let same : subject ≡ other = cc (is, k.subject_is) in subst (λ (z : S). legal z v.seen) same k.legal_seen;
    own = k.own;
    booked = λ n es h. (k.booked n es h).1;
    begins_joined = k.begins_joined;
  }

  -- a step that changes nothing
  pub unmoved : (s : State (Option T) (View S E)) → Rule s → (i id : ℕ) (v : View S E) (carried : List (ℕ × Option T)) → At s.views id v
      → Rule (stepped s i (slice_index s.words i) id carried v keeps)
  unmoved s r i id v carried at = let P : List ℕ × List (View S E) → Type 0 = λ z. Rule record { words = z.0; homes = s.homes; views = z.1 } in
      let words : s.words ≡ set s.words i (slice_index s.words i) = sym (set-get_or s.words i 0) in
      let views : s.views ≡ set s.views id v = sym (set_again s.views id v at) in
      subst P (λ k. (words k, views k)) r

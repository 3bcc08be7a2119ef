-- What one whole turn does, from the ticket that was drawn to the value that was given back.
use Rattle.std.proofs.Common.{◌≡◌, ℕ, ◌+◌, ◌%◌, ◌^◌, ◌≤◌, true, List, [], ◌∷◌, ◌++◌, length, drop, Option, Some, refl, ap, sym, ◌∙◌, subst, append-nil}
use mathlib.Core.List.{IsPrefix}
use mathlib.Core.Option as maybe
use Rattle.atomic_table.specs.Table.{Me, step, Allows}
use Rattle.def_turn.specs.Pass.{Lock, Holds, IsCurrent, IsRight, written}
use Rattle.sl_turn.specs.declared.view.View.{View}
use Rattle.sl_turn.specs.declared.work.Turned.{Turned}
use Rattle.sl_turn.specs.declared.work.Turned.TheVariants.{Entered, Unchanged}
use Rattle.sl_turn.specs.Once.{history_after, books_after, MayTurn, HasTurned}
use Rattle.sl_turn.specs.View.{given_back, pass_of, IsIdle}
use Rattle.sl_turn.specs.Rule.{Kept}
use Rattle.sl_turn.specs.Plays.{Carries, GivesBack, HasTaken, IsSound}
use Rattle.sl_turn.proofs.Prefixes.{prefix_trans, drop_begun}
use Rattle.sl_turn.proofs.Books.{AreOf, holds_after, written_nothing}
use Rattle.sl_turn.proofs.Raising.{booked_after, raises}

module _ {E O : Type 0} where
  -- the entries that a turn adds
  abbrev pub added : Turned O → E → List E
  added (Entered out) entry = entry ∷ []
  added (Unchanged out) entry = []

  pub history_is : (turned : Turned O) (entry : E) (history : List E) → history_after turned entry history ≡ history ++ added turned entry
  history_is (Entered out) entry history = refl
  history_is (Unchanged out) entry history = sym (append-nil history)

  pub books_are : (turned : Turned O) (entry : E) (n : ℕ) (books : List (ℕ × List E)) → written n (added turned entry) books ≡ books_after turned entry n books
  books_are (Entered out) entry n books = refl
  books_are (Unchanged out) entry n books = written_nothing n books

  pub added_of : (by : E → ℕ) (n : ℕ) (turned : Turned O) (entry : E) → by entry ≡ n → AreOf by n (added turned entry)
  added_of by n (Entered out) entry is = (is, tt)
  added_of by n (Unchanged out) entry is = tt

  pub legal_either : (P : List E → Type 0) (tells : Turned O → Type 0) (turned : Turned O) (entry : E) (history : List E) → P history → ((out : O) → tells (Entered out) → P (history ++ entry ∷ []))
      → tells turned → P (history_after turned entry history)
  legal_either P tells (Entered out) entry history before after told = after out told
  legal_either P tells (Unchanged out) entry history before after told = before

-- what is known of a turn once its value can be given back
pub record Facts {T S E O : Type 0} (subject_of : T → S) (history_of : T → List E) (by : E → ℕ) (legal : S → List E → Type 0) (lock : Lock S) (v : View S E) (entry : E)
    (fits : S → List E → Type 0) (tells : S → List E → Turned O → Type 0) (turned : Turned O) (ticket : ℕ) (begun after : Me (Option T) (View S E)) (value : T) : Type 0 where
  pub subject_is : v.subject ≡ Some lock.subject
  pub numbered : 1 ≤ v.number
  pub sound : IsSound by legal v
  pub own : by entry ≡ v.number
  pub may : MayTurn by legal (pass_of lock v) entry fits tells
  pub taken : HasTaken subject_of history_of by legal (record v { ticket = Some ticket }, []) begun
  pub same : after.0 ≡ begun.0
  pub carried : Carries after value
  pub about : subject_of value ≡ subject_of taken.value
  pub history : history_of value ≡ history_after turned entry (history_of taken.value)
  pub told : tells (subject_of taken.value) (history_of taken.value) turned

-- a work may run on the value that a seat has taken
pub fits_taken : {T S E O : Type 0} {subject_of : T → S} {history_of : T → List E} {by : E → ℕ} {legal : S → List E → Type 0} {lock : Lock S}
    {begun : Me (Option T) (View S E)} (v : View S E) (entry : E) (fits : S → List E → Type 0) (tells : S → List E → Turned O → Type 0)
    → v.subject ≡ Some lock.subject → MayTurn by legal (pass_of lock v) entry fits tells
    → (taken : (ticket : ℕ) × HasTaken subject_of history_of by legal (record v { ticket = Some ticket }, []) begun)
    → (value : T) × Carries begun value × fits (subject_of value) (history_of value)
fits_taken {S = S} {subject_of = subject_of} {history_of = history_of} {legal = legal} {lock = lock} v entry fits tells subject_is may taken =
    let t = taken.1 in
    let lock_is : subject_of t.value ≡ lock.subject = (let is = t.subject in cc (is, subject_is)) in
    let found : legal lock.subject (history_of t.value) = subst (λ (z : S). legal z (history_of t.value)) lock_is t.legal_history in
    let passes = (may (history_of t.value) found record { begins = t.begins; booked = t.booked; own = t.own }).0 in
    (t.value, t.carried, subst (λ (z : S). fits z (history_of t.value)) (sym lock_is) passes)

pub gather : {T S E O : Type 0} {subject_of : T → S} {history_of : T → List E} {by : E → ℕ} {legal : S → List E → Type 0} {lock : Lock S} {v : View S E} {entry : E}
    {fits : S → List E → Type 0} {tells : S → List E → Turned O → Type 0} {turned : Turned O} {begun after : Me (Option T) (View S E)}
    → v.subject ≡ Some lock.subject → 1 ≤ v.number → IsSound by legal v → by entry ≡ v.number → MayTurn by legal (pass_of lock v) entry fits tells
    → (taken : (ticket : ℕ) × HasTaken subject_of history_of by legal (record v { ticket = Some ticket }, []) begun) → after.0 ≡ begun.0
    → (done : (value : T) × Carries after value × (subject_of value ≡ subject_of taken.1.value) × (history_of value ≡ history_after turned entry (history_of taken.1.value))
    × tells (subject_of taken.1.value) (history_of taken.1.value) turned)
    → Facts subject_of history_of by legal lock v entry fits tells turned taken.0 begun after done.0
gather subject_is numbered sound own may taken same done = record {
  subject_is = subject_is;
  numbered = numbered;
  sound = sound;
  own = own;
  may = may;
  taken = taken.1;
  same = same;
  carried = done.1;
  about = done.2;
  history = done.3;
  told = done.4;
}

module _ {T S E O : Type 0} {subject_of : T → S} {history_of : T → List E} {by : E → ℕ} {legal : S → List E → Type 0} {lock : Lock S} {v : View S E} {entry : E}
    {fits : S → List E → Type 0} {tells : S → List E → Turned O → Type 0} {turned : Turned O} {ticket : ℕ} {begun after : Me (Option T) (View S E)} {value : T}
    (f : Facts subject_of history_of by legal lock v entry fits tells turned ticket begun after value) where
  open f use {subject_is, numbered, sound, own, may, taken, same, carried, about, history, told}

  abbrev found : List E
  found = history_of taken.value

  abbrev new : List E
  new = added turned entry

  -- the view of the seat in its turn
  abbrev entered : View S E
  entered = record v { ticket = Some ticket; seen = found; in_turn = true }

  after_is : after.0 ≡ entered
  after_is = same ∙ taken.view

  lock_is : subject_of taken.value ≡ lock.subject
  lock_is = let is = taken.subject in cc (is, subject_is)

  legal_found : legal lock.subject found
  legal_found = subst (λ (z : S). legal z found) lock_is taken.legal_history

  current : IsCurrent by (pass_of lock v) found
  current = record { begins = taken.begins; booked = taken.booked; own = taken.own }

  told_lock : tells lock.subject found turned
  told_lock = subst (λ (z : S). tells z found turned) lock_is told

  legal_after : legal lock.subject (history_after turned entry found)
  legal_after = legal_either (legal lock.subject) (tells lock.subject found) turned entry found legal_found (may found legal_found current).1 told_lock

  history_added : history_of value ≡ found ++ new
  history_added = history ∙ history_is turned entry found

  pub raise_allowed : (slots id : ℕ) → Allows (Kept subject_of history_of by legal lock.subject) slots id after 1 (λ n. (n + 1) % 2 ^ 64) (GivesBack history_of (step slots 1 1 0 maybe.none) after)
  raise_allowed slots id =
      let ok : legal (subject_of value) (history_of value) = let P : S × List E → Type 0 = λ z. legal z.0 z.1 in subst P (λ i. (sym (about ∙ lock_is) i, sym history i)) legal_after in
      let number_is : after.0.number ≡ v.number = ap (λ (z : View S E). z.number) after_is in
      let seen_is : after.0.seen ≡ found = ap (λ (z : View S E). z.seen) after_is in
      raises subject_of history_of by legal lock.subject slots id after value new carried (ap (λ (z : View S E). z.in_turn) after_is) (subst (λ (n : ℕ). 1 ≤ n) (sym number_is) numbered)
      (ap (λ (z : View S E). z.subject) after_is ∙ (taken.subject ∙ ap Some (sym about)))
      (history_added ∙ ap (λ (z : List E). z ++ new) (sym seen_is))
      (subst (λ (n : ℕ). AreOf by n new) (sym number_is) (added_of by v.number turned entry own))
      ok

  module _ (final : Me (Option T) (View S E)) (given : final ≡ (given_back (history_of value) after.0, [])) where
    abbrev last : View S E
    last = given_back (found ++ new) entered

    final_is : final.0 ≡ last
    final_is = ap (λ (z : Me (Option T) (View S E)). z.0) given ∙ (λ i. given_back (history_added i) (after_is i))

    written_is : written v.number (drop (length found) (found ++ new)) v.books ≡ books_after turned entry v.number v.books
    written_is = ap (λ (z : List E). written v.number z v.books) (drop_begun found new) ∙ books_are turned entry v.number v.books

    pub turn_done : HasTurned by legal entry tells (pass_of lock v) turned (pass_of lock final.0)
    turn_done = record {
      found = found;
      legal_found = legal_found;
      current = current;
      told = told_lock;
      pass =
          let seen : found ++ new ≡ history_after turned entry found = sym (history_is turned entry found) in
          (ap (pass_of lock) final_is
          ∙ (λ i. record { lock = lock; number = v.number; seen = seen i; books = written_is i; turns = v.turns + 1; next = v.next }));
    }

    pub holds_done : (n : ℕ) → Holds v.books n → Holds final.0.books n
    holds_done n h = subst (λ (z : View S E). Holds z.books n) (sym final_is) (holds_after v.number (drop (length found) (found ++ new)) v.books n h)

    pub begins_done : IsPrefix v.seen final.0.seen
    begins_done = subst (λ (z : View S E). IsPrefix v.seen z.seen) (sym final_is) (prefix_trans v.seen found (found ++ new) taken.begins (new, refl))

    pub sound_done : IsSound by legal final.0
    sound_done = subst (IsSound by legal) (sym final_is) record {
      legal_seen = λ subject is. let e : lock.subject ≡ subject = cc (is, subject_is) in
          subst (λ (z : S). legal z (found ++ new)) e (subst (legal lock.subject) (history_is turned entry found) legal_after);
      own = holds_after v.number (drop (length found) (found ++ new)) v.books v.number sound.own;
      booked = booked_after subject_of history_of by legal lock.subject found new entered (added_of by v.number turned entry own) refl (λ n es h. taken.booked n es h);
      begins_joined = prefix_trans v.joined v.seen (found ++ new) sound.begins_joined (prefix_trans v.seen found (found ++ new) taken.begins (new, refl));
    }

    pub idle_done : IsIdle final
    idle_done = record {
      numbered = subst (λ (z : View S E). 1 ≤ z.number) (sym final_is) numbered;
      no_ticket = ap (λ (z : View S E). z.ticket) final_is;
      not_in_turn = ap (λ (z : View S E). z.in_turn) final_is;
      carries_nothing = ap (λ (z : Me (Option T) (View S E)). z.1) given;
    }

    pub subject_done : final.0.subject ≡ Some lock.subject
    subject_done = ap (λ (z : View S E). z.subject) final_is ∙ subject_is

    pub number_done : final.0.number ≡ v.number
    number_done = ap (λ (z : View S E). z.number) final_is

-- a sound view is that of a right pass
pub right_of : {S E : Type 0} (by : E → ℕ) (legal : S → List E → Type 0) (lock : Lock S) (v : View S E) → v.subject ≡ Some lock.subject → IsSound by legal v → IsRight by legal (pass_of lock v)
right_of by legal lock v is sound = record { legal_seen = sound.legal_seen lock.subject is; own = sound.own; booked = sound.booked }

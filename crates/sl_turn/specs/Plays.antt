-- What each step on the table tells its seat.
use Rattle.std.specs.Prelude.{◌≡◌, ◌≢◌, ℕ, true, List, [], ◌∷◌, Option, Some}
use mathlib.Core.List.{IsPrefix}
use Rattle.atomic_table.specs.Table.{Me, Step}
use Rattle.def_turn.specs.Pass.{entries_of, HasBook, Holds, AreNumbered}
use Rattle.sl_turn.specs.declared.view.View.{View}
use Rattle.sl_turn.specs.View.{given_back}

-- a seat's view, and the slots that it has taken
abbrev Mine : Type 0 → Type 0 → Type 0 → Type 0
Mine T S E = Me (Option T) (View S E)

-- the seat has taken the slot, in which it has this value
abbrev pub Carries : {T S E : Type 0} → Mine T S E → T → Type 0
Carries me value = me.1 ≡ (0, Some value) ∷ []

-- the seat holds the ticket that was found
abbrev pub Draws : {T S E : Type 0} → Step (Option T) → Mine T S E → ℕ → Mine T S E → Type 0
Draws step me found after = after ≡ (record me.0 { ticket = Some found }, me.1)

-- what holds of a view by itself
pub record IsSound {S E : Type 0} (by : E → ℕ) (legal : S → List E → Type 0)
    (v : View S E) : Type 0 where
  pub legal_seen : (subject : S) → v.subject ≡ Some subject → legal subject v.seen
  pub own : Holds v.books v.number
  pub booked : (n : ℕ) (entries : List E) → HasBook v.books n entries
      → entries_of by n v.seen ≡ entries
  pub begins_joined : IsPrefix v.joined v.seen

-- a seat without a ticket learns what holds of its view
abbrev pub Looks : {T S E : Type 0} → (E → ℕ) → (S → List E → Type 0)
    → Step (Option T) → Mine T S E → ℕ → Mine T S E → Type 0
Looks by legal step me found after = (after ≡ me) × IsSound by legal me.0

module _ {T S E : Type 0} (subject_of : T → S) (history_of : T → List E)
    (by : E → ℕ) (legal : S → List E → Type 0) where
  -- the seat is in its turn, and has taken this value
  pub record HasTaken (me after : Mine T S E) : Type 0 where
    pub value : T
    pub carried : Carries after value
    pub view : after.0 ≡ record me.0 { seen = history_of value; in_turn = true }
    pub subject : me.0.subject ≡ Some (subject_of value)
    pub legal_history : legal (subject_of value) (history_of value)
    pub begins : IsPrefix me.0.seen (history_of value)
    pub booked : (n : ℕ) (entries : List E) → HasBook me.0.books n entries
        → entries_of by n (history_of value) ≡ entries
    pub own : entries_of by me.0.number (history_of value) ≡ entries_of by me.0.number me.0.seen

  -- the seat is in its turn where the serving number is its ticket, and else nothing changed
  abbrev pub Enters : Step (Option T) → Mine T S E → ℕ → Mine T S E → Type 0
  Enters step me found after = (me.0.ticket ≡ Some found → HasTaken me after)
      × (me.0.ticket ≢ Some found → after ≡ me)

-- the seat has given its value back
abbrev pub GivesBack : {T S E : Type 0} → (T → List E)
    → Step (Option T) → Mine T S E → ℕ → Mine T S E → Type 0
GivesBack {T} history_of step me found after = (value : T) → Carries me value
    → after ≡ (given_back (history_of value) me.0, [])

-- the value at the end of a lock whose numbers the seat of this view holds
pub record HasEnded {T S E : Type 0} (subject_of : T → S) (history_of : T → List E) (by : E → ℕ)
    (subject : S) (v : View S E) (value : T) : Type 0 where
  pub subject_is : subject_of value ≡ subject
  pub history_is : history_of value ≡ v.seen
  pub numbered : AreNumbered by v.next (history_of value)

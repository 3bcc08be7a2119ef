-- The rule of a lock. Word 0 is the next ticket, word 1 the serving number, slot 0 has the value.
use Rattle.std.specs.Prelude.{◌≡◌, ◌≢◌, ◌⊎◌, ℕ, ◌+◌, ◌%◌, ◌^◌, ◌<◌, ◌≤◌, min, true, false, List, [], ◌∷◌, Option, Some, None}
use mathlib.Core.List.{IsPrefix}
use mathlib.Core.Option as maybe
use lib.ListN.{get_elem?}
use Rattle.atomic_table.specs.Table.{State}
use Rattle.def_turn.specs.Pass.{entries_of, HasBook, Holds, AreNumbered}
use Rattle.sl_turn.specs.declared.view.View.{View}
use Rattle.sl_turn.specs.View.{spent}

-- the sum of f over a list
abbrev pub total : {X : Type 0} → (X → ℕ) → List X → ℕ
total f [] = 0
total f (x ∷ xs) = f x + total f xs

-- 1 for a ticket, and 0 for none
abbrev pub tickets_of : Option ℕ → ℕ
tickets_of None = 0
tickets_of (Some ticket) = 1

module _ {S E : Type 0} where
  -- the seat j has the view v
  abbrev pub At : List (View S E) → ℕ → View S E → Type 0
  At views j v = get_elem? views j ≡ maybe.some v

  -- 1 for a view that is not spent
  abbrev pub live : View S E → ℕ
  live v = min v.number 1

  -- 1 for a view with a ticket
  abbrev pub waiting : View S E → ℕ
  waiting v = tickets_of v.ticket

  -- no two seats stand in this relation
  abbrev pub Apart : (View S E → View S E → Type 0) → List (View S E) → Type 0
  Apart R views = (i j : ℕ) (v w : View S E) → At views i v → At views j w → R v w → i ≡ j

  -- both have one ticket
  abbrev pub ShareTicket : View S E → View S E → Type 0
  ShareTicket v w = (ticket : ℕ) × (v.ticket ≡ Some ticket) × (w.ticket ≡ Some ticket)

  -- both hold one number
  abbrev pub ShareNumber : View S E → View S E → Type 0
  ShareNumber v w = (n : ℕ) × Holds v.books n × Holds w.books n

  -- both give out numbers
  abbrev pub BothSplit : View S E → View S E → Type 0
  BothSplit v w = (v.next ≢ 0) × (w.next ≢ 0)

  -- no seat is in its turn
  abbrev pub NoneInTurn : List (View S E) → Type 0
  NoneInTurn views = (j : ℕ) (v : View S E) → At views j v → v.in_turn ≡ false

  -- the slot is out with the seat that is in its turn
  abbrev pub IsOut : {T : Type 0} → State (Option T) (View S E) → Type 0
  IsOut s = (s.homes ≡ maybe.none ∷ [])
      × ((j : ℕ) × (v : View S E) × At s.views j v × (v.in_turn ≡ true))

  module _ (by : E → ℕ) (legal : S → List E → Type 0) where
    -- what holds of the view of a seat that is not spent, where the lock's value, or the one that
    -- the seat in its turn has taken, stands for this history, and the numbers below `top` were
    -- given out
    pub record Knows (subject : S) (history : List E) (top : ℕ) (v : View S E) : Type 0 where
      pub subject_is : v.subject ≡ Some subject
      pub begins : IsPrefix v.seen history
      pub legal_seen : legal subject v.seen
      pub own : Holds v.books v.number
      pub given_out : (n : ℕ) → Holds v.books n → (1 ≤ n) × (n < top)
      pub booked : (n : ℕ) (entries : List E) → HasBook v.books n entries
          → (entries_of by n history ≡ entries) × (entries_of by n v.seen ≡ entries)
      pub next_is : v.next ≢ 0 → v.next ≡ top
      pub begins_joined : IsPrefix v.joined v.seen

module _ {T S E : Type 0} (subject_of : T → S) (history_of : T → List E)
    (by : E → ℕ) (legal : S → List E → Type 0) where
  -- the slot is full, its value stands for the history, and no seat is in its turn
  abbrev pub IsFull : S → List E → State (Option T) (View S E) → Type 0
  IsFull subject history s = (value : T) × (s.homes ≡ maybe.some (Some value) ∷ [])
      × (subject_of value ≡ subject) × (history_of value ≡ history) × NoneInTurn s.views

  -- the rule
  pub record Kept (subject : S) (s : State (Option T) (View S E)) : Type 0 where
    pub history : List E
    pub top : ℕ
    pub drawn : ℕ
    pub served : ℕ
    pub words : s.words ≡ drawn ∷ served ∷ []
    pub few : top < 2 ^ 32
    pub room : total live s.views < top
    pub legal_history : legal subject history
    pub numbered : AreNumbered by top history
    pub next_ticket : drawn ≡ (served + total waiting s.views) % 2 ^ 64
    pub queue : (j : ℕ) (v : View S E) (ticket : ℕ) → At s.views j v → v.ticket ≡ Some ticket
        → (place : ℕ) × (place < total waiting s.views) × (ticket ≡ (served + place) % 2 ^ 64)
    pub tickets_differ : Apart ShareTicket s.views
    pub one_holder : Apart ShareNumber s.views
    pub one_splitter : Apart BothSplit s.views
    pub views : (j : ℕ) (v : View S E) → At s.views j v
        → (v ≡ spent) ⊎ Knows by legal subject history top v
    pub in_turn : (j : ℕ) (v : View S E) → At s.views j v → v.in_turn ≡ true
        → (v.ticket ≡ Some served) × (v.seen ≡ history)
    pub slot : IsFull subject history s ⊎ IsOut s

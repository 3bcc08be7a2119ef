-- Passes: what each caller of a lock knows of the one history that all its callers make.
use Rattle.std.specs.Prelude.{◌≡◌, ℕ, ◌==◌, ◌<◌, ◌≤◌, ◌≢◌, ◌⊎◌, List, [], ◌∷◌, ◌++◌, length, filter, ltb, if◌then◌else◌}
use mathlib.Core.List.{IsPrefix}
use Rattle.atomic_table.specs.Seated.{TableId}

-- a lock: the table that it is made of, and the subject of the value that it keeps
pub record Lock (S : Type 0) : Type 0 where
  pub table : TableId
  pub subject : S

-- what a caller knows: its number, the beginning of the history that it has seen, its books, how
-- many turns it has had, and the least number not yet given out, or 0 where it gives out none
pub record PassState (S E : Type 0) : Type 0 where
  pub lock : Lock S
  pub number : ℕ
  pub seen : List E
  pub books : List (ℕ × List E)
  pub turns : ℕ
  pub next : ℕ

-- the entries of one caller, in order, where `by` tells whose an entry is
abbrev pub entries_of : {E : Type 0} → (E → ℕ) → ℕ → List E → List E
entries_of by n entries = filter (λ e. by e == n) entries

-- among the books the one of the number n has these entries
abbrev pub HasBook : {E : Type 0} → List (ℕ × List E) → ℕ → List E → Type 0
HasBook [] n entries = ⊥
HasBook (b ∷ bs) n entries = ((b.0 ≡ n) × (b.1 ≡ entries)) ⊎ HasBook bs n entries

-- one of the books is the one of the number n
abbrev pub Holds : {E : Type 0} → List (ℕ × List E) → ℕ → Type 0
Holds {E} books n = (entries : List E) × HasBook books n entries

-- the books with further entries in the one of the number n
abbrev pub written : {E : Type 0} → ℕ → List E → List (ℕ × List E) → List (ℕ × List E)
written n new [] = []
written n new (b ∷ bs) = (b.0, if b.0 == n then b.1 ++ new else b.1) ∷ written n new bs

-- each entry is of a number from 1 to below `next`
abbrev pub AreNumbered : {E : Type 0} → (E → ℕ) → ℕ → List E → Type 0
AreNumbered by next [] = Unit {0}
AreNumbered by next (e ∷ es) = (1 ≤ by e) × (by e < next) × AreNumbered by next es

-- the longer of two lists, and the first where they are as long
abbrev pub longer : {E : Type 0} → List E → List E → List E
longer xs ys = if ltb (length xs) (length ys) then ys else xs

module _ {S E : Type 0} (by : E → ℕ) where
  -- a history that begins with what the pass has seen, and has of each number that it holds the
  -- entries of its book alone, and no further entry of its own number
  pub record IsCurrent (pass : PassState S E) (history : List E) : Type 0 where
    pub begins : IsPrefix pass.seen history
    pub booked : (n : ℕ) (entries : List E) → HasBook pass.books n entries
        → entries_of by n history ≡ entries
    pub own : entries_of by pass.number history ≡ entries_of by pass.number pass.seen

  -- what holds of every pass: what it has seen is legal, it holds its own number, and of each
  -- number that it holds it has seen the entries of its book, each once and in order
  pub record IsRight (legal : S → List E → Type 0) (pass : PassState S E) : Type 0 where
    pub legal_seen : legal pass.lock.subject pass.seen
    pub own : Holds pass.books pass.number
    pub booked : (n : ℕ) (entries : List E) → HasBook pass.books n entries
        → entries_of by n pass.seen ≡ entries

-- the pass holds every number that was given out
abbrev pub HoldsAll : {S E : Type 0} → PassState S E → Type 0
HoldsAll pass = (pass.next ≢ 0) × ((n : ℕ) → 1 ≤ n → n < pass.next → Holds pass.books n)

-- the first pass of a lock
abbrev pub first_pass : {S E : Type 0} → Lock S → PassState S E
first_pass lock =
    record { lock = lock; number = 1; seen = []; books = (1, []) ∷ []; turns = 0; next = 2 }

-- the pass that another gives out under its next number
abbrev pub split_pass : {S E : Type 0} → PassState S E → PassState S E
split_pass pass = record {
  lock = pass.lock;
  number = pass.next;
  seen = pass.seen;
  books = (pass.next, []) ∷ [];
  turns = 0;
  next = 0;
}

-- What one turn does to a history and to the pass that makes it.
use Rattle.std.specs.Prelude.{◌≡◌, ◌+◌, ℕ, List, [], ◌∷◌, ◌++◌}
use Rattle.def_turn.specs.Pass.{PassState, IsCurrent, written}
use Rattle.sl_turn.specs.declared.work.Turned.{Turned}
use Rattle.sl_turn.specs.declared.work.Turned.TheVariants.{Entered, Unchanged}

-- a work that enters nothing leaves the value as it was
abbrev pub KeepsUnchanged : {T O : Type 0} → Turned O → T → T → Type 0
KeepsUnchanged (Entered out) before after = Unit {0}
KeepsUnchanged (Unchanged out) before after = after ≡ before

-- the fact holds of what was answered with an entry
abbrev pub IfEntered : {O : Type 0} → Turned O → (O → Type 0) → Type 0
IfEntered (Entered out) P = P out
IfEntered (Unchanged out) P = Unit {0}

-- the fact holds of what was answered without an entry
abbrev pub IfUnchanged : {O : Type 0} → Turned O → (O → Type 0) → Type 0
IfUnchanged (Entered out) P = Unit {0}
IfUnchanged (Unchanged out) P = P out

module _ {E O : Type 0} where
  -- the history after a turn whose work has this entry
  abbrev pub history_after : Turned O → E → List E → List E
  history_after (Entered out) entry history = history ++ entry ∷ []
  history_after (Unchanged out) entry history = history

  -- the books after a turn of the number n
  abbrev pub books_after : Turned O → E → ℕ → List (ℕ × List E) → List (ℕ × List E)
  books_after (Entered out) entry n books = written n (entry ∷ []) books
  books_after (Unchanged out) entry n books = books

module _ {S E O : Type 0} (by : E → ℕ) (legal : S → List E → Type 0) where
  -- what may come of a turn: each legal history that may be found passes the work's test, and where
  -- the work enters, its entry is legal after it
  abbrev pub MayTurn : PassState S E → E → (S → List E → Type 0)
      → (S → List E → Turned O → Type 0) → Type 0
  MayTurn pass entry fits tells = (history : List E)
      → legal pass.lock.subject history → IsCurrent by pass history
      → fits pass.lock.subject history
      × ((out : O) → tells pass.lock.subject history (Entered out)
      → legal pass.lock.subject (history ++ entry ∷ []))

  -- what came of a turn that found this history
  pub record HasTurned (entry : E) (tells : S → List E → Turned O → Type 0)
      (before : PassState S E) (turned : Turned O) (after : PassState S E) : Type 0 where
    pub found : List E
    pub legal_found : legal before.lock.subject found
    pub current : IsCurrent by before found
    pub told : tells before.lock.subject found turned
    pub pass : after ≡ record before {
      seen = history_after turned entry found;
      books = books_after turned entry before.number before.books;
      turns = before.turns + 1;
    }

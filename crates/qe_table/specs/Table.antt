-- What a table stands for.
use Rattle.std.specs.Prelude.{ℕ, List, [], ◌∷◌, ◌++◌}
use Rattle.std.specs.declared.cmp.Ordering.{Ordering}
use Rattle.def_core.specs.declared.event.Event.{Event}
use Rattle.def_core.specs.declared.event.Event.TheVariants.{Look}
use Rattle.def_core.specs.declared.outcome.Outcome.{Outcome}
use Rattle.def_core.specs.declared.outcome.Outcome.TheVariants.{Wait}
use Rattle.def_core.specs.State.{State}
use Rattle.def_core.specs.Replay.{replay}

-- so many callers, and the events so far, the first one first
pub record TableState (K A : Type 0) : Type 0 where
  pub callers : ℕ
  pub history : List (Event K A)

-- a table of callers that have done nothing
abbrev pub opened : {K A : Type 0} → ℕ → TableState K A
opened n = record { callers = n; history = [] }

-- the table with one event more
abbrev pub entered : {K A : Type 0} → TableState K A → Event K A → TableState K A
entered t e = record { callers = t.callers; history = t.history ++ e ∷ [] }

-- the table after a Look that came to this: one that found its key still claimed is no event
abbrev pub after_look : {K A C : Type 0} → TableState K A → ℕ → Outcome C → TableState K A
after_look t c (Wait w) = t
after_look t c _ = entered t (Look c)

-- what is published, claimed and awaited after all its events
abbrev pub state : {K A : Type 0} → (K → K → Ordering) → TableState K A → State K A
state cmp t = replay cmp t.callers t.history

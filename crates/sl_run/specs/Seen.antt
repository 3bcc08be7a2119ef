-- What contracts see of the objects of a call, before and after it.
use Rattle.std.specs.Prelude.{◌≡◌, ℕ, ◌<◌, ◌≤◌, ◌⊎◌, List, [], length, take, Option, Some, IfSome}
use Rattle.def_sources.specs.Limits.{most_bytes}
use Rattle.sl_io.specs.Faults.{Rose}
use Rattle.sl_io.specs.Sink.{Gains}
use Rattle.sl_roots.specs.State.{RootState}
use Rattle.sl_run.specs.Status.{line_of}
use Rattle.sl_run.specs.declared.status.Status.{Status}

-- what an object tells before and after a call, if it tells it, and its counts of faults
pub record Seen : Type 0 where
  pub before : Option (List ℕ)
  pub now : Option (List ℕ)
  pub faults_before : ℕ
  pub faults_now : ℕ

-- the same of its four parts
abbrev pub seen : Option (List ℕ) → Option (List ℕ) → ℕ → ℕ → Seen
seen before now faults_before faults_now =
    record { before = before; now = now; faults_before = faults_before; faults_now = faults_now }

-- how many steps were counted before and after a call
pub record Counted : Type 0 where
  pub before : ℕ
  pub now : ℕ

-- the same of its two parts
abbrev pub counted : ℕ → ℕ → Counted
counted before now = record { before = before; now = now }

-- no step was counted
abbrev pub IsIdle : Counted → Type 0
IsIdle steps = steps.now ≡ steps.before

-- the roots before and after a call
pub record SeenRoots : Type 0 where
  pub before : List RootState
  pub now : List RootState

-- the same of its two parts
abbrev pub seen_roots : List RootState → List RootState → SeenRoots
seen_roots before now = record { before = before; now = now }

-- a fault of the object is shown
abbrev pub HasFault : Seen → Type 0
HasFault object = Rose object.faults_before object.faults_now

-- this text was written to the object
abbrev pub IsWritten : Seen → List ℕ → Type 0
IsWritten object text = Gains object.before object.now text

-- the first n bytes of the text were written, and not all, and a fault is shown
pub record IsWrittenInPart (object : Seen) (text : List ℕ) (n : ℕ) : Type 0 where
  pub part : n < length text
  pub written : Gains object.before object.now (take n text)
  pub fault : HasFault object

-- the status's line was written, or a first part of it where a fault is shown
abbrev pub Reports : Status → Seen → Type 0
Reports status err =
    IsWritten err (line_of status) ⊎ ((n : ℕ) × IsWrittenInPart err (line_of status) n)

-- The input was this text, to its end, and nothing of it is left. It has no more bytes than a
-- module may have.
pub record IsRead (input : Seen) (text : List ℕ) : Type 0 where
  pub short : length text ≤ most_bytes
  pub whole : IfSome input.before (λ left. (left ≡ text) × (input.now ≡ Some []))

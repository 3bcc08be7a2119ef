-- A root in memory: what it holds, and how it answers the next fetch.
use Rattle.std.specs.Prelude.{ℕ, ◌==◌, Bool, List, if◌then◌else◌}
use Rattle.std.specs.List.{list_any}
use Rattle.sl_io.specs.Faults.{one_more}
use Rattle.sl_io.specs.declared.root.Fetched.{Fetched}
use Rattle.sl_io.specs.declared.root.Fetched.TheVariants.{Failed}
use Rattle.sl_roots.specs.Held.{held_answer}

-- the modules that are held, the numbers of the fetches that fail, and how many fetches and faults
-- there were; fetches are counted from 1
pub record MemoryState : Type 0 where
  pub files : List (List ℕ × List ℕ)
  pub fail_at : List ℕ
  pub calls : ℕ
  pub faults : ℕ

-- whether the next fetch is one of those that fail
abbrev pub fetch_fails : MemoryState → Bool
fetch_fails root = list_any (λ call. call == one_more root.calls) root.fail_at

-- what the next fetch answers, unless memory runs out
abbrev pub memory_answer : MemoryState → List ℕ → ℕ → Fetched
memory_answer root name max =
    if fetch_fails root then Failed else held_answer root.files name max

-- the root after that fetch
abbrev pub after_fetch : MemoryState → MemoryState
after_fetch root =
    if fetch_fails root
    then record root { calls = one_more root.calls; faults = one_more root.faults }
    else record root { calls = one_more root.calls }

-- What a root that holds its modules in memory answers.
use Rattle.std.specs.Prelude.{ℕ, List, Option, Some, None, length, if◌then◌else◌, nat_lt}
use Rattle.sl_io.specs.Root.{bytes_of}
use Rattle.sl_io.specs.declared.root.Fetched.{Fetched}
use Rattle.sl_io.specs.declared.root.Fetched.TheVariants.{Found, Absent, TooLarge}

-- what a root that has these bytes for a name answers, or has none
abbrev pub answer_of : Option (List ℕ) → ℕ → Fetched
answer_of None max = Absent
answer_of (Some bytes) max = if nat_lt max (length bytes) then TooLarge else Found bytes

-- what a root of these modules answers for a name
abbrev pub held_answer : List (List ℕ × List ℕ) → List ℕ → ℕ → Fetched
held_answer files name max = answer_of (bytes_of files name) max

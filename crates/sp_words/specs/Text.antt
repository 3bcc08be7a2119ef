-- What a call leaves behind that ran out of memory in the middle of a text.
use Rattle.std.specs.Prelude.{◌≡◌, ℕ, List, ◌++◌, take}

-- behind the old words stand the first few of these, and nothing else
abbrev pub AppendsSome : List ℕ → List ℕ → List ℕ → Type 0
AppendsSome words old new = (count : ℕ) × (new ≡ old ++ take count words)

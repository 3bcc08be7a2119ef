-- Where keys stand first.
use Rattle.std.specs.Prelude.{◌≡◌, ℕ, ◌==◌, List}
use Rattle.std.specs.BTreeMap.{BTreeMap, get}
use Rattle.std.specs.List.{position}
use Rattle.std.specs.Ordering.{nat_cmp}

-- a map has each key that stands among these, at its first place
abbrev pub IsIndex : List ℕ → BTreeMap ℕ ℕ → Type 0
IsIndex keys places = (key : ℕ) → get nat_cmp places key ≡ position (λ other. other == key) keys

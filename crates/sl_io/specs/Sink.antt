-- What a sink takes. What was written is told by some objects, as a list of bytes, and not told by
-- others.
use Rattle.std.specs.Prelude.{◌≡◌, ℕ, ◌<◌, ◌≤◌, List, ◌++◌, length, take, Option, Some, IfSome}
use Rattle.sl_io.specs.declared.sink.Took.{Took}
use Rattle.sl_io.specs.declared.sink.Took.TheVariants.{Bytes, Failed}

-- these bytes were added to what was written
abbrev pub Gains : Option (List ℕ) → Option (List ℕ) → List ℕ → Type 0
Gains before now bytes = IfSome before (λ written. now ≡ Some (written ++ bytes))

-- what an answer says of a write of this piece: its first bytes were added, or nothing was
abbrev pub Takes : Took → List ℕ → Option (List ℕ) → Option (List ℕ) → Type 0
Takes (Bytes n) piece before now = (0 < n) × (n ≤ length piece) × Gains before now (take n piece)
Takes Failed piece before now = now ≡ before

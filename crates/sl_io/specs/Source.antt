-- What a source gives. What is left is told by some objects, as a list of bytes, and not told by
-- others.
use Rattle.std.specs.Prelude.{◌≡◌, ℕ, ◌<◌, ◌≤◌, List, [], ◌++◌, take, Option, IfSome, IsSomeAnd}
use Rattle.sl_io.specs.declared.source.Got.{Got}
use Rattle.sl_io.specs.declared.source.Got.TheVariants.{Bytes, End, Failed}

-- what was left begins with these bytes, and what stands behind them is left now
abbrev pub Gives : Option (List ℕ) → Option (List ℕ) → List ℕ → Type 0
Gives before now bytes = IfSome before (λ left. IsSomeAnd now (λ rest. left ≡ bytes ++ rest))

-- some bytes of what was left are gone
abbrev pub GivesSome : Option (List ℕ) → Option (List ℕ) → Type 0
GivesSome before now = (bytes : List ℕ) × Gives before now bytes

-- bytes that are held grew by the bytes that were given
abbrev pub Reaches : Option (List ℕ) → Option (List ℕ) → List ℕ → List ℕ → Type 0
Reaches before now held longer =
    (bytes : List ℕ) × Gives before now bytes × (longer ≡ held ++ bytes)

-- What an answer says of a read into a buffer of this room, which is `buffer` afterwards: the next
-- bytes stand in front; or nothing was left; or nothing was taken.
abbrev pub Reads : Got → ℕ → List ℕ → Option (List ℕ) → Option (List ℕ) → Type 0
Reads (Bytes n) room buffer before now = (0 < n) × (n ≤ room) × Gives before now (take n buffer)
Reads End room buffer before now = IfSome before (λ left. left ≡ []) × (now ≡ before)
Reads Failed room buffer before now = now ≡ before

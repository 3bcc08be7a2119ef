-- A source that never fails.
use Rattle.std.specs.Prelude.{ℕ, ◌==◌, List, length, min, if◌then◌else◌}
use Rattle.sl_io.specs.declared.source.Got.{Got}
use Rattle.sl_io.specs.declared.source.Got.TheVariants.{Bytes, End}

-- what a read into this room answers where these bytes are left
abbrev pub plain_answer : List ℕ → ℕ → Got
plain_answer rest room = if length rest == 0 then End else Bytes (min room (length rest))

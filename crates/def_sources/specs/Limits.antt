-- The limits on sources.
use Rattle.std.specs.Prelude.{ℕ}

-- the greatest number of modules
abbrev pub most_modules : ℕ
most_modules = 256

-- the greatest number of bytes of a module
abbrev pub most_bytes : ℕ
most_bytes = 262144

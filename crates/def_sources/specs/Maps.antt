-- Where modules are looked for. A map is a list of pairs of a name and bytes, of which the first
-- one with a name counts.
use Rattle.std.specs.Prelude.{ℕ, List, [], ◌∷◌, Option, None}
use Rattle.std.specs.Option.{option_or}
use Rattle.sl_io.specs.Root.{bytes_of}

-- the bytes that the first map that has a name has for it
abbrev pub bytes_in : List (List (List ℕ × List ℕ)) → List ℕ → Option (List ℕ)
bytes_in [] name = None
bytes_in (files ∷ maps) name = option_or (bytes_of files name) (bytes_in maps name)

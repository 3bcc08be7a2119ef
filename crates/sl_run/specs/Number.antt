-- How the reader tells decimal numbers.
use Rattle.std.specs.Prelude.{ℕ, Bool, ◌||◌, ◌&&◌, ◌==◌, nat_lt, List, length, slice_index}

-- a plus or a zero stands before the first digit
abbrev pub has_other_spelling : List ℕ → Bool
has_other_spelling token =
    (slice_index token 0 == 43) || ((slice_index token 0 == 48) && nat_lt 1 (length token))

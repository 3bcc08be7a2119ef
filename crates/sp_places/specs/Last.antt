-- Where an opcode stands last before each place, as a table.
use Rattle.std.specs.Prelude.{ℕ, zero, suc, List, [], ◌∷◌, ◌++◌}
use Rattle.def_spirv.specs.Words.{Module}
use Rattle.def_valid.specs.Places.{last_before}

-- for each place up to one
abbrev pub lasts : ℕ → Module → ℕ → List ℕ
lasts opcode m zero = last_before opcode m zero ∷ []
lasts opcode m (suc k) = lasts opcode m k ++ last_before opcode m (suc k) ∷ []

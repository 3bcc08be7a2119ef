-- The ids of an instruction that have a role.
use Rattle.std.specs.Prelude.{◌≡◌, ℕ, Bool, true, false, List, ◌++◌, Option, Some, None}
use Rattle.std.specs.List.{flat_map}
use Rattle.std.specs.Option.{option_map}
use Rattle.def_spirv.specs.Operands.{Part, is_result, is_result_type, is_use, words_where}
use Rattle.def_spirv.specs.Table as table
use Rattle.sp_places.specs.declared.operands.Wanted.{Wanted}
use Rattle.sp_places.specs.declared.operands.Wanted.TheVariants.{Result, ResultType, Use}

-- the test of roles
abbrev pub wanted_in : Wanted → table.Role → Bool
wanted_in Result = is_result
wanted_in ResultType = is_result_type
wanted_in Use = is_use

-- the ids of operands that are wanted, where there are operands
abbrev pub wanted_ids : Wanted → Option (List Part) → Option (List ℕ)
wanted_ids wanted parts =
    option_map (λ (ps : List Part). flat_map (words_where (wanted_in wanted)) ps) parts

-- these ids, where there are operands, are put behind those that were found
abbrev pub Gathers : Option (List ℕ) → List ℕ → List ℕ → Bool → Type 0
Gathers None old new fits = fits ≡ false
Gathers (Some ids) old new fits = (fits ≡ true) × (new ≡ old ++ ids)

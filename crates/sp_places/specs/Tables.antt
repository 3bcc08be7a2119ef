-- Tables over the places of a module.
use Rattle.std.specs.Prelude.{◌≡◌, ℕ, Bool, List, map, is_some}
use Rattle.def_spirv.specs.Opcodes as op
use Rattle.def_spirv.specs.Operands.{is_result, is_result_type, is_use, operands_of, words_of}
use Rattle.def_spirv.specs.Words.{Module}
use Rattle.def_valid.specs.Places.{result_or_none, size}
use Rattle.sp_places.specs.Last.{lasts}

-- what instructions have, define and use, and where functions begin and end, and blocks begin
pub record AreTables (m : Module) (fits : List Bool) (defined types uses : List (List ℕ))
    (results functions ends labels : List ℕ) : Type 0 where
  pub fits_are : fits ≡ map (λ i. is_some (operands_of i)) m.instructions
  pub defined_are : defined ≡ map (words_of is_result) m.instructions
  pub types_are : types ≡ map (words_of is_result_type) m.instructions
  pub uses_are : uses ≡ map (words_of is_use) m.instructions
  pub results_are : results ≡ map result_or_none m.instructions
  pub functions_are : functions ≡ lasts op.function m (size m)
  pub ends_are : ends ≡ lasts op.function_end m (size m)
  pub labels_are : labels ≡ lasts op.label m (size m)

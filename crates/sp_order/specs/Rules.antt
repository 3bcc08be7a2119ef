-- Rules that are tests at a place, and where one is broken first.
use Rattle.std.specs.Prelude.{◌≡◌, ℕ, ◌≤◌, ◌<◌, Bool, true, false}
use Rattle.def_spirv.specs.Words.{Module}
use Rattle.def_valid.specs.Blocks.{blocks_whole, entry_block_free, merges_before_branches}
use Rattle.def_valid.specs.Ids.{defined_before, ids_defined}
use Rattle.def_valid.specs.Places.{size}
use Rattle.def_valid.specs.Sections.{entry_point_once, memory_model_once, operands_fit, sections_stand, shader_declared}
use Rattle.sp_order.specs.declared.rules.Rule.{Rule}
use Rattle.sp_order.specs.declared.rules.Rule.TheVariants.{Layout, Operands, Definitions, Uses, Capability, MemoryModel, EntryPoint, Blocks, EntryBlocks, Merges}

-- the test of a rule
abbrev pub test_of : Rule → Module → ℕ → Bool
test_of Layout = sections_stand
test_of Operands = operands_fit
test_of Definitions = ids_defined
test_of Uses = defined_before
test_of Capability = shader_declared
test_of MemoryModel = memory_model_once
test_of EntryPoint = entry_point_once
test_of Blocks = blocks_whole
test_of EntryBlocks = entry_block_free
test_of Merges = merges_before_branches

-- a place at which a rule is broken, and before which it holds
pub record IsFirstBreak (rule : Module → ℕ → Bool) (m : Module) (k : ℕ) : Type 0 where
  pub within : k ≤ size m
  pub broken : rule m k ≡ false
  pub before : (j : ℕ) → j < k → rule m j ≡ true

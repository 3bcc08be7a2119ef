-- The blocks that merge instructions name.
use Rattle.std.specs.Prelude.{◌≡◌, map}
use Rattle.def_spirv.specs.Words.{Module}
use Rattle.def_valid.specs.Blocks.{continue_target_in, merge_block_in}
use Rattle.sp_flow.specs.declared.merges.Merges.{Merges}

-- these are the merge blocks and the continue targets of a module, in the order of its instructions
pub record IsOf (m : Module) (merges : Merges) : Type 0 where
  pub headers_are : merges.headers ≡ map merge_block_in m.instructions
  pub loops_are : merges.loops ≡ map continue_target_in m.instructions

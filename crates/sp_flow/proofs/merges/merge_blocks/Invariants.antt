use Rattle.std.proofs.Common.{◌≡◌, map, take}
use Rattle.def_valid.specs.Blocks.{merge_block_in}
use Rattle.sp_flow.proofs.merges.merge_blocks.Given as goal

abbrev pub invariant-loop-place : goal.invariant-loop-place
invariant-loop-place l = l.blocks.items ≡ map merge_block_in (take l.place l.places.instructions)

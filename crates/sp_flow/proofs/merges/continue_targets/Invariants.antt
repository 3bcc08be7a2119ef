use Rattle.std.proofs.Common.{◌≡◌, map, take}
use Rattle.def_valid.specs.Blocks.{continue_target_in}
use Rattle.sp_flow.proofs.merges.continue_targets.Given as goal

abbrev pub invariant-loop-place : goal.invariant-loop-place
invariant-loop-place l = l.blocks.items ≡ map continue_target_in (take l.place l.places.instructions)

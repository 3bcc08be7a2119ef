use Rattle.std.proofs.Common.{◌≡◌, map, take, is_some}
use Rattle.def_spirv.specs.Operands.{operands_of}
use Rattle.sp_words.specs.View.{instruction_of}
use Rattle.sp_places.proofs.operands.all_fits.Given as goal

abbrev pub invariant-loop-inst : goal.invariant-loop-inst
invariant-loop-inst l = l.fits.items ≡ map (λ i. is_some (operands_of i)) (map instruction_of (take l.inst-index l.insts))

use Rattle.std.proofs.Common.{◌≡◌, map, take}
use Rattle.def_spirv.specs.Operands.{words_of}
use Rattle.sp_places.specs.Gather.{wanted_in}
use Rattle.sp_words.specs.View.{instruction_of}
use Rattle.sp_places.proofs.operands.all_gathered.Given as goal

abbrev pub invariant-loop-inst : goal.invariant-loop-inst
invariant-loop-inst l = l.lists.items ≡ map (words_of (wanted_in l.wanted)) (map instruction_of (take l.inst-index l.insts))

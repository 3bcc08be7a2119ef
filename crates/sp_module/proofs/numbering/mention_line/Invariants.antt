use Rattle.std.proofs.Common.{◌≡◌, map, take}
use Rattle.std.specs.List.{flat_map}
use Rattle.def_spirv.specs.Symbolic.{operand_ids}
use Rattle.sp_module.specs.Numbering.{with_ids}
use Rattle.sp_module.specs.View.{operand_of}
use Rattle.sp_module.proofs.numbering.mention_line.Given as goal

abbrev pub invariant-loop-operand : goal.invariant-loop-operand
invariant-loop-operand l = l.ids.keys ≡ with_ids l.initial.ids.keys
    (flat_map operand_ids (map operand_of (take l.operand-index l.line.operands)))

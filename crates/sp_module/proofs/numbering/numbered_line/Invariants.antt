use Rattle.std.proofs.Common.{◌≡◌, map, take, nat_eq}
use Rattle.std.specs.List.{flat_map}
use Rattle.def_spirv.specs.Symbolic.{number_of, operand_words}
use Rattle.sp_module.specs.View.{operand_of}
use Rattle.sp_module.proofs.numbering.numbered_line.Given as goal

abbrev pub invariant-loop-operand : goal.invariant-loop-operand
invariant-loop-operand l =
    l.operands ≡ flat_map (operand_words (number_of nat_eq l.ids.keys))
    (map operand_of (take l.operand-index l.line.operands))

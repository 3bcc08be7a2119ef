use Rattle.std.proofs.Common.{◌≡◌, ◌++◌, map, take}
use Rattle.sp_module.specs.Numbering.{instruction_by}
use Rattle.sp_words.specs.View.{instruction_of}
use Rattle.sp_module.proofs.numbering.push_lines.Given as goal

abbrev pub invariant-loop-line : goal.invariant-loop-line
invariant-loop-line l = map instruction_of l.insts ≡ map instruction_of l.initial.insts
    ++ map (instruction_by l.ids.keys) (take l.line-index l.lines)

use Rattle.std.proofs.Common.{◌≡◌, ◌++◌, map, take}
use Rattle.std.specs.List.{flat_map}
use Rattle.sp_module.specs.Numbering.{instruction_by}
use Rattle.sp_words.specs.View.{instruction_of}
use Rattle.sp_module.proofs.numbering.push_sections.Given as goal

abbrev pub invariant-loop-lines : goal.invariant-loop-lines
invariant-loop-lines l = map instruction_of l.insts ≡ map instruction_of l.initial.insts
    ++ map (instruction_by l.ids.keys) (flat_map (λ section. section.now) (take l.lines-index l.sections))

use Rattle.std.proofs.Common.{List, map, Bor}
use Rattle.std.specs.List.{flat_map}
use Rattle.def_spirv.specs.Symbolic.{section_lines}
use Rattle.sp_module.specs.View.{sections_of}
use Rattle.sp_module.specs.declared.sections.Line.{Line}
use Rattle.sp_module.proofs.Numbered.{numbered-by}
use Rattle.sp_words.specs.View.{instruction_of}
use Rattle.sp_module.proofs.numbering.number.Goals as goal

pub returns : goal.returns
returns c =
    let lines = λ (sections : List (Bor (List Line))). flat_map (λ (s : Bor (List Line)). s.now) sections in
    numbered-by (section_lines (sections_of c.args.sections.now)) (lines c.in_order.result)
    (lines c.in_order-2.result) c.new-ids.result.keys c.mention_sections.new.ids.keys
    c.in_ok-bound.bound c.new-insts.result (map instruction_of c.push_sections.new.insts)
    c.in_order.ensures c.in_order-2.ensures c.new-ids.ensures.empty
    (c.in_ok-mention_sections.ensures {u = tt}) (c.in_ok-bound.ensures {u = tt})
    c.new-insts.ensures (c.in_ok-push_sections.ensures {u = tt})

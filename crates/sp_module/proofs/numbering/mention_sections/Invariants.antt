use Rattle.std.proofs.Common.{◌≡◌, take}
use Rattle.std.specs.List.{flat_map}
use Rattle.sp_module.specs.Numbering.{ids_of, with_ids}
use Rattle.sp_module.proofs.numbering.mention_sections.Given as goal

abbrev pub invariant-loop-lines : goal.invariant-loop-lines
invariant-loop-lines l = l.ids.keys ≡ with_ids l.initial.ids.keys
    (ids_of (flat_map (λ section. section.now) (take l.lines-index l.sections)))

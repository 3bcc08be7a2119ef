use Rattle.std.proofs.Common.{◌≡◌, take}
use Rattle.sp_module.specs.Numbering.{ids_of, with_ids}
use Rattle.sp_module.proofs.numbering.mention_all.Given as goal

abbrev pub invariant-loop-line : goal.invariant-loop-line
invariant-loop-line l = l.ids.keys ≡ with_ids l.initial.ids.keys (ids_of (take l.line-index l.lines))

use Rattle.std.proofs.Common.{◌∙◌, ◌≤◌, ◌<◌, ap, arith, get_or, length}
use Rattle.def_valid.specs.Places.{size}
use Rattle.sp_words.specs.View.{module_of}
use Rattle.sp_places.proofs.Modules.{instruction-found, instruction-past, size_lem}
use Rattle.sp_places.proofs.places.Places.instruction.Goals as goal

pub returns-then-place-insts : goal.returns-then-place-insts
returns-then-place-insts c =
    let w = c.self.inside.words.now in
    let insts = c.as_slice-insts.ensures in
    let x = c.index-insts-place.result in
    let h : c.args.place < length w.insts = omega (arith, c.if-place-insts.true, ap length insts) in
    rw (← c.self.view_is)
    (instruction-found w c.args.place x h (c.index-insts-place.is ∙ ap (λ s. get_or s c.args.place x) insts))

pub returns-else-place-insts : goal.returns-else-place-insts
returns-else-place-insts c =
    let w = c.self.inside.words.now in
    let past : size (module_of w) ≤ c.args.place = omega (arith, c.if-place-insts.false, ap length c.as_slice-insts.ensures, size_lem w) in
    rw (← c.self.view_is) (instruction-past (module_of w) c.args.place past)

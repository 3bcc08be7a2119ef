use Rattle.std.proofs.Common.{◌∙◌, ◌≤◌, lit<, arith}
use Rattle.def_spirv.specs.Opcodes as op
use Rattle.def_valid.specs.Places.{size}
use Rattle.sp_places.proofs.Modules.{last-behind}
use Rattle.sp_places.proofs.places.Places.block.Goals as goal

pub returns-else-place-size : goal.returns-else-place-size
returns-else-place-size c =
    let past : size c.args.self.now ≤ c.args.place = omega (arith, c.size.ensures) in
    c.block_before-else-place-size.ensures ∙ last-behind op.label c.args.self.now c.args.place (lit< tt) past

use Rattle.std.proofs.Common.{◌≤◌, ◌+◌, arith, sym}
use Rattle.def_valid.specs.Places.{size}
use Rattle.sp_places.proofs.Modules.{opcode-past}
use Rattle.sp_places.proofs.places.Places.opcode_behind.Goals as goal

pub returns-else-place-size : goal.returns-else-place-size
returns-else-place-size c =
    let past : size c.args.self.now ≤ c.args.place + 1 = omega (arith, c.size.ensures) in
    sym (opcode-past c.args.self.now (c.args.place + 1) past)

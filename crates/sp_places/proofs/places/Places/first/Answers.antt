use Rattle.sp_places.proofs.Modules.{first-opcode}
use Rattle.sp_places.proofs.places.Places.first.Goals as goal

pub returns : goal.returns
returns c =
    rw (← c.self.view_is)
    (first-opcode c.self.inside.words.now c.args.op c.as_slice.result.now c.first_opcode.result c.as_slice.ensures c.first_opcode.ensures)

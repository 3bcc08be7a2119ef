use Rattle.def_body.proofs.Sound.{bodies_are_sound}
use Rattle.def_body.proofs.laws.bodies_are_sound.Goals as goal

pub returns : goal.returns
returns c = bodies_are_sound

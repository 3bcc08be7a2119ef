use Rattle.def_check.proofs.Lawful.{bodies_lawful}
use Rattle.def_check.proofs.laws.bodies_are_lawful.Goals as goal

pub returns : goal.returns
returns c = bodies_lawful

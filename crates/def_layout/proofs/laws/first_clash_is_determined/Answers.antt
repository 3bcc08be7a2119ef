use Rattle.def_layout.proofs.Clashes.{one_clash}
use Rattle.def_layout.proofs.laws.first_clash_is_determined.Goals as goal

pub returns : goal.returns
returns c = one_clash

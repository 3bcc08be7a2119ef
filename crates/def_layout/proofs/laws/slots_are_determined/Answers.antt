use Rattle.def_layout.proofs.Bound.{one_binding}
use Rattle.def_layout.proofs.laws.slots_are_determined.Goals as goal

pub returns : goal.returns
returns c = one_binding

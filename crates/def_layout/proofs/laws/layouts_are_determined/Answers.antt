use Rattle.def_layout.proofs.Determined.{one_layout}
use Rattle.def_layout.proofs.laws.layouts_are_determined.Goals as goal

pub returns : goal.returns
returns c = one_layout

use Rattle.def_layout.proofs.Inside.{all_inside}
use Rattle.def_layout.proofs.laws.leaves_lie_inside.Goals as goal

pub returns : goal.returns
returns c = all_inside

use Rattle.def_layout.proofs.Apart.{all_apart}
use Rattle.def_layout.proofs.laws.leaves_are_apart.Goals as goal

pub returns : goal.returns
returns c = all_apart

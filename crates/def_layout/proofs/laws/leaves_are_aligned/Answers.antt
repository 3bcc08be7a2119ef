use Rattle.def_layout.proofs.Aligned.{all_aligned}
use Rattle.def_layout.proofs.laws.leaves_are_aligned.Goals as goal

pub returns : goal.returns
returns c = all_aligned

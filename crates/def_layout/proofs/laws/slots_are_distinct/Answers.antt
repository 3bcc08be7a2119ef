use Rattle.def_layout.proofs.Bound.{all_distinct}
use Rattle.def_layout.proofs.laws.slots_are_distinct.Goals as goal

pub returns : goal.returns
returns c = all_distinct

use Rattle.def_layout.proofs.Least.{least_stride}
use Rattle.def_layout.proofs.laws.strides_hold_all.Goals as goal

pub returns : goal.returns
returns c = least_stride

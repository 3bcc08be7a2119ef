use Rattle.std.proofs.Common.{ap}
use Rattle.sl_tree.proofs.Views.{expr_in-Itself}
use Rattle.def_reading.specs.Plain.{plain_tree}
use Rattle.sl_machine.proofs.frames.leaf.Goals as goal

pub returns : goal.returns
returns c = λ source. ap plain_tree (expr_in-Itself source c.args.token)

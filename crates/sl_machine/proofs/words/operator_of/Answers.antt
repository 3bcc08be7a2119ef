use Rattle.std.proofs.Common.{refl}
use Rattle.sl_machine.proofs.words.operator_of.Goals as goal

pub operator_among-requires : goal.operator_among-requires
operator_among-requires c = refl

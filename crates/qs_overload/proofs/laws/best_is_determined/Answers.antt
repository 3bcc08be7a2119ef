use Rattle.qs_overload.proofs.Determined.{one_best}
use Rattle.qs_overload.proofs.laws.best_is_determined.Goals as goal

pub returns : goal.returns
returns c = one_best

use Rattle.std.proofs.Common.{length}
use Rattle.sp_places.proofs.operands.+gather_by.Given as goal

abbrev pub decreases-gather_by : goal.decreases-gather_by
decreases-gather_by l = length l.kinds.now

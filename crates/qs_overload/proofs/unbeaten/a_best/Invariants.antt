use Rattle.std.proofs.Common.{◌<◌, length}
use Rattle.qs_overload.proofs.Beating.{NoneBeats}
use Rattle.qs_overload.proofs.unbeaten.a_best.Given as goal

abbrev pub invariant-loop-number : goal.invariant-loop-number
invariant-loop-number l = (l.best < length l.costs) × NoneBeats l.costs l.number l.best

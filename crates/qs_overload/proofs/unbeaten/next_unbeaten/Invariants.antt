use Rattle.qs_overload.specs.Search.{AreBeaten}
use Rattle.qs_overload.proofs.unbeaten.next_unbeaten.Given as goal

abbrev pub invariant-loop-number : goal.invariant-loop-number
invariant-loop-number l = AreBeaten l.costs l.fn.from l.number

use Rattle.std.proofs.Common.{◌≡◌, length}
use Rattle.std.specs.List.{All}
use Rattle.qs_overload.proofs.tests.list_of.Given as goal

abbrev pub invariant-loop-list : goal.invariant-loop-list
invariant-loop-list l = (length l.costs ≡ l.list-index) × All (λ list. length list ≡ 3) l.costs

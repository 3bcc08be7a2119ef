use Rattle.sl_scopes.proofs.Clashing.{AreSeen}
use Rattle.sl_scopes.proofs.scope.search_scope.Given as goal

abbrev pub invariant-loop-name : goal.invariant-loop-name
invariant-loop-name l = AreSeen l.source l.names l.name-index l.seen

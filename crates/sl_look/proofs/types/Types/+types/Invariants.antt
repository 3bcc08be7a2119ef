use Rattle.std.proofs.Common.{◌+◌, ◌-◌, ◌*◌, length}
use Rattle.sl_look.proofs.TypeLists.{IsSoFar}
use Rattle.sl_look.proofs.types.Types.+types.Given as goal

abbrev pub decreases-list : goal.decreases-list
decreases-list l = 4 * (64 - l.types) + 1

abbrev pub decreases-args : goal.decreases-args
decreases-args l = 4 * (64 - l.types) + 2

abbrev pub decreases-named : goal.decreases-named
decreases-named l = 4 * (64 - l.types) + 3

abbrev pub decreases-one : goal.decreases-one
decreases-one l = 4 * (64 - l.types)

-- the types so far stand in front of those that are left
abbrev pub invariant-list-loop-trees : goal.invariant-list-loop-trees
invariant-list-loop-trees l = IsSoFar l.self.source.now l.types l.place l.trees l.here

abbrev pub decreases-list-loop-trees : goal.decreases-list-loop-trees
decreases-list-loop-trees l = length l.here.rest.now

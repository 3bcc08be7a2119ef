use Rattle.std.proofs.Common.{◌≡◌, map}
use Rattle.lay_out.specs.View.{leaf_of}
use Rattle.lay_out.proofs.found.into_leaves.Given as goal

abbrev pub invariant-loop-found : goal.invariant-loop-found
invariant-loop-found l = l.leaves ≡ map leaf_of l.yielded

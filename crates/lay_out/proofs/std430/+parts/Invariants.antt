use Rattle.std.proofs.Common.{map}
use Rattle.lay_out.proofs.Follows.{IsSoFar}
use Rattle.lay_out.specs.View.{leaf_of}
use Rattle.lay_out.proofs.std430.+parts.Given as goal

abbrev pub invariant-lay_fields-loop-number : goal.invariant-lay_fields-loop-number
invariant-lay_fields-loop-number l = IsSoFar l.fields l.number l.end l.align (map leaf_of l.found.items)

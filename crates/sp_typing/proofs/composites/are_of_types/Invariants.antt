use Rattle.std.proofs.Common.{◌≡◌, length}
use Rattle.def_valid.specs.Types.{are_of_types}
use Rattle.sp_typing.proofs.composites.are_of_types.Given as goal

-- the ids so far are of their types
abbrev pub invariant-loop-left : goal.invariant-loop-left
invariant-loop-left l =
    are_of_types l.places l.ids l.wanted ≡ are_of_types l.places l.left l.right

abbrev pub decreases-loop-left : goal.decreases-loop-left
decreases-loop-left l = length l.left

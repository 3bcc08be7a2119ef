use Rattle.std.proofs.Common.{◌≡◌, length}
use Rattle.def_valid.specs.Types.{reached_type}
use Rattle.sp_typing.proofs.pointers.reached_type.Given as goal

-- the indices so far lead to the type reached
abbrev pub invariant-loop-rest : goal.invariant-loop-rest
invariant-loop-rest l =
    reached_type l.places l.own l.indices ≡ reached_type l.places l.reached l.rest

abbrev pub decreases-loop-rest : goal.decreases-loop-rest
decreases-loop-rest l = length l.rest

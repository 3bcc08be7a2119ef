use Rattle.std.proofs.Common.{◌≡◌, length}
use Rattle.def_valid.specs.Types.{extracted_type}
use Rattle.sp_typing.proofs.composites.extracted_type.Given as goal

-- the numbers so far lead to the type reached
abbrev pub invariant-loop-rest : goal.invariant-loop-rest
invariant-loop-rest l =
    extracted_type l.places l.own l.numbers ≡ extracted_type l.places l.reached l.rest

abbrev pub decreases-loop-rest : goal.decreases-loop-rest
decreases-loop-rest l = length l.rest

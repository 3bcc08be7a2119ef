use Rattle.std.proofs.Common.{◌≡◌, ◌+◌, length}
use Rattle.def_valid.specs.Types.{parameters_are}
use Rattle.sp_typing.proofs.functions.parameters_are.Given as goal

-- the parameters so far are of their types
abbrev pub invariant-loop-rest : goal.invariant-loop-rest
invariant-loop-rest l =
    parameters_are l.places (l.place + 1) l.wanted ≡ parameters_are l.places (l.before + 1) l.rest

abbrev pub decreases-loop-rest : goal.decreases-loop-rest
decreases-loop-rest l = length l.rest

use Rattle.std.proofs.Common.{◌≡◌, ◌++◌, map}
use Rattle.def_layout.specs.Std430.{in_member}
use Rattle.lay_out.specs.View.{leaf_of}
use Rattle.lay_out.proofs.found.append.Given as goal

abbrev pub invariant-loop-found : goal.invariant-loop-found
invariant-loop-found l = map leaf_of l.all.items ≡ map leaf_of l.initial.all.items ++ map (in_member l.number l.offset) (map leaf_of l.yielded)

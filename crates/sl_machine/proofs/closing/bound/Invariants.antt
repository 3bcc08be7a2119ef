use Rattle.std.proofs.Common.{◌≡◌, ℕ, List, length}
use Rattle.sl_tree.specs.View.{expr_in}
use Rattle.sl_machine.specs.Framed.{frames_in}
use Rattle.sl_machine.specs.Kept.{kept_held}
use Rattle.def_reading.specs.Machine.{bound}
use Rattle.sl_machine.proofs.closing.bound.Given as goal

-- what is complete with what is left is what it was
abbrev pub invariant-loop-frame : goal.invariant-loop-frame
invariant-loop-frame l =
    (source : List ℕ) → kept_held l.keep (bound l.least (expr_in source l.fn.value) (frames_in source l.initial.frames))
    ≡ kept_held l.keep (bound l.least (expr_in source l.whole) (frames_in source l.frames))

abbrev pub decreases-loop-frame : goal.decreases-loop-frame
decreases-loop-frame l = length l.frames

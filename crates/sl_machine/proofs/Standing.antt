-- Operands that stand, as the functions on lists have them.
use Rattle.std.proofs.Common.{◌≡◌, ℕ, List, ap, ◌∙◌}
use Rattle.def_tree.specs.ExprTree.{ExprTree as Tree}
use Rattle.def_tree.specs.Limits.{plain}
use Rattle.sl_tree.specs.View.{expr_in}
use Rattle.sl_tree.specs.declared.expressions.ExprTree.{ExprTree}
use Rattle.sl_machine.specs.Framed.{frames_in}
use Rattle.def_reading.specs.Machine as machine
use Rattle.def_reading.specs.Cursor.{advance}
use Rattle.sl_cursor.specs.Seen.{place_in}
use Rattle.sl_machine.specs.Steps.{step_in}
use Rattle.sl_machine.specs.declared.frames.Frame.{Frame}
use Rattle.sl_machine.specs.declared.machine.Step.{Step}
use Rattle.sl_cursor.specs.declared.cursor.Cursor.{Cursor}

-- an operand stands before the place behind the next token
abbrev pub Stands : ExprTree → Cursor → Step → Type 0
Stands value place step =
    (source : List ℕ) (frames : List Frame) → step_in source frames step ≡ machine.stands (frames_in source frames) (expr_in source value) (advance plain (place_in source place))

-- this is what the function on lists gives, if it gives that this tree stands there
pub stands_as : (source : List ℕ) (frames : List Frame) (value : ExprTree) (place : Cursor) (step : Step) (tree : Tree) (given : machine.Step) → Stands value place step
    → expr_in source value ≡ tree → machine.stands (frames_in source frames) tree (advance plain (place_in source place)) ≡ given → step_in source frames step ≡ given
stands_as source frames value place step tree given s v g =
    s source frames ∙ ap (λ e. machine.stands (frames_in source frames) e (advance plain (place_in source place))) v ∙ g

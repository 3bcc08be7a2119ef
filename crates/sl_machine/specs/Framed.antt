-- What frames stand for, over a source.
use Rattle.std.specs.Prelude.{ℕ, List, map}
use Rattle.sl_token.specs.View.{token_in}
use Rattle.sl_tree.specs.View.{expr_in, operator_of, unary_of, word_of}
use Rattle.sl_tree.specs.declared.expressions.ExprTree.{ExprTree}
use Rattle.def_reading.specs.Machine as machine
use Rattle.def_reading.specs.Machine.{Held}
use Rattle.sl_machine.specs.declared.frames.Frame.{Frame}
use Rattle.sl_machine.specs.declared.frames.Frame.TheVariants as frame

-- a frame
abbrev pub frame_in : List ℕ → Frame → machine.Frame
frame_in source (frame.Prefix operator token) =
    machine.Prefix (unary_of operator) (token_in source token)
frame_in source (frame.Casting opening word token) =
    machine.Casting (token_in source opening) (word_of word) (token_in source token)
frame_in source (frame.Left left operator token) =
    machine.Left (expr_in source left) (operator_of operator) (token_in source token)
frame_in source (frame.Asked condition question) =
    machine.Asked (expr_in source condition) (token_in source question)
frame_in source (frame.Chosen condition question yes') =
    machine.Chosen (expr_in source condition) (token_in source question) (expr_in source yes')
frame_in source (frame.InGroup opening) = machine.InGroup (token_in source opening)
frame_in source (frame.InFunctionalCast word token) =
    machine.InFunctionalCast (word_of word) (token_in source token)
frame_in source (frame.InCall callee opening args) =
    machine.InCall (expr_in source callee) (token_in source opening) (map (expr_in source) args)
frame_in source (frame.InIndex base opening) =
    machine.InIndex (expr_in source base) (token_in source opening)

-- frames from the innermost
abbrev pub frames_in : List ℕ → List Frame → List machine.Frame
frames_in source frames = map (frame_in source) frames

-- a value and the frames around it
abbrev pub held_in : List ℕ → ExprTree → List Frame → Held
held_in source value frames = (expr_in source value, frames_in source frames)

-- How many frames of some kinds there are.
use Rattle.std.specs.Prelude.{ℕ, ◌+◌, List, [], ◌∷◌}
use Rattle.sl_machine.specs.declared.frames.Frame.{Frame}
use Rattle.sl_machine.specs.declared.frames.Frame.TheVariants as frame

-- of a bracket, an operator before its operand, a condition before `?`: which of these a frame is
abbrev pub counts_of : Frame → ℕ × ℕ × ℕ
counts_of (frame.Prefix operator token) = (0, 1, 0)
counts_of (frame.Casting opening word token) = (0, 0, 0)
counts_of (frame.Left left operator token) = (0, 0, 0)
counts_of (frame.Asked condition question) = (0, 0, 1)
counts_of (frame.Chosen condition question yes') = (0, 0, 0)
counts_of (frame.InGroup opening) = (1, 0, 0)
counts_of (frame.InFunctionalCast word token) = (1, 0, 0)
counts_of (frame.InCall callee opening args) = (1, 0, 0)
counts_of (frame.InIndex base opening) = (1, 0, 0)

-- how many brackets, operators before operands, and open `?` frames have
abbrev pub brackets_in : List Frame → ℕ
brackets_in [] = 0
brackets_in (frame ∷ frames) = brackets_in frames + (counts_of frame).0

-- of these the operators
abbrev pub unary_in : List Frame → ℕ
unary_in [] = 0
unary_in (frame ∷ frames) = unary_in frames + (counts_of frame).1

-- of these the open `?`
abbrev pub asked_in : List Frame → ℕ
asked_in [] = 0
asked_in (frame ∷ frames) = asked_in frames + (counts_of frame).2

-- What steps stand for, over a source.
use Rattle.std.specs.Prelude.{ℕ, List}
use Rattle.std.specs.Option.{option_map}
use Rattle.sl_token.specs.View.{token_in}
use Rattle.sl_tree.specs.View.{expr_in, word_of}
use Rattle.sl_machine.specs.Framed.{frames_in}
use Rattle.def_reading.specs.Machine as machine
use Rattle.sl_cursor.specs.Seen.{place_in, reach_in}
use Rattle.sl_machine.specs.declared.frames.Frame.{Frame}
use Rattle.sl_machine.specs.declared.machine.Mode.{Mode}
use Rattle.sl_machine.specs.declared.machine.Mode.TheVariants as mode
use Rattle.sl_machine.specs.declared.machine.Step.{Step}
use Rattle.sl_machine.specs.declared.machine.Step.TheVariants as step

-- what stands before the next token
abbrev pub mode_in : List ℕ → Mode → machine.Mode
mode_in source mode.Expected = machine.Expected
mode_in source (mode.Value value) = machine.Value (expr_in source value)
mode_in source (mode.Dotted base) = machine.Dotted (expr_in source base)
mode_in source (mode.Converting word first) =
    machine.Converting (word_of word) (token_in source first)

-- a step, with the frames behind it
abbrev pub step_in : List ℕ → List Frame → Step → machine.Step
step_in source frames (step.On other mode place) =
    machine.On (option_map (reach_in source) other)
    (record {
      frames = frames_in source frames;
      mode = mode_in source mode;
      place = place_in source place;
    })
step_in source frames (step.Ends expr place) =
    machine.Ends (expr_in source expr) (place_in source place)
step_in source frames (step.Refused place) = machine.Refused (place_in source place)

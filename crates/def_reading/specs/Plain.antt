-- What is kept of expressions where their trees need not be the same: whether they are calls, and
-- which forms are open.
use Rattle.std.specs.Prelude.{Bool, true, false, List, [], ◌∷◌}
use Rattle.def_token.specs.Lexical as lexical
use Rattle.def_token.specs.Lexical.{Token}
use Rattle.def_tree.specs.ExprTree as tree
use Rattle.def_tree.specs.ExprTree.{ExprTree, NoExprs}
use Rattle.def_tree.specs.Statements.{is_call}
use Rattle.def_reading.specs.Machine.{Frame, Prefix, Casting, Left, Asked, Chosen, InGroup, InFunctionalCast, InCall, InIndex, Mode, Expected, Value, Dotted, Converting, Config, Step, On, Ends, Refused, Held}
use Rattle.def_reading.specs.Try.{Try, Reads, Stops}

-- a token that stands for any
abbrev pub any_token : Token
any_token =
    record {
      kind = lexical.End;
      text = [];
      start = 0;
      end = 0;
      place = record { line = 1; column = 1 };
    }

-- a leaf
abbrev pub leaf : ExprTree
leaf = tree.Itself any_token

-- a call, or a leaf
abbrev pub plain_by : Bool → ExprTree
plain_by true = tree.Call leaf any_token NoExprs
plain_by false = leaf

-- what is kept of a tree: whether it is a call
abbrev pub plain_tree : ExprTree → ExprTree
plain_tree expr = plain_by (is_call expr)

-- what is kept of arguments: whether there are any
abbrev pub plain_args : List ExprTree → List ExprTree
plain_args [] = []
plain_args (first ∷ more) = leaf ∷ []

-- what is kept of a frame: all but its trees
abbrev pub plain_frame : Frame → Frame
plain_frame (Prefix operator token) = Prefix operator token
plain_frame (Casting opening word token) = Casting opening word token
plain_frame (Left left operator token) = Left leaf operator token
plain_frame (Asked condition question) = Asked leaf question
plain_frame (Chosen condition question yes') = Chosen leaf question leaf
plain_frame (InGroup opening) = InGroup opening
plain_frame (InFunctionalCast word token) = InFunctionalCast word token
plain_frame (InCall callee opening args) = InCall leaf opening (plain_args args)
plain_frame (InIndex base opening) = InIndex leaf opening

-- what is kept of frames
abbrev pub plain_frames : List Frame → List Frame
plain_frames [] = []
plain_frames (frame ∷ frames) = plain_frame frame ∷ plain_frames frames

-- what is kept of a value and the frames around it
abbrev pub plain_held : Held → Held
plain_held held = (plain_tree held.0, plain_frames held.1)

-- what is kept of a mode
abbrev pub plain_mode : Mode → Mode
plain_mode Expected = Expected
plain_mode (Value value) = Value (plain_tree value)
plain_mode (Dotted base) = Dotted leaf
plain_mode (Converting word token) = Converting word token

-- what is kept of where the machine is
abbrev pub plain_config : Config → Config
plain_config config =
    record {
      frames = plain_frames config.frames;
      mode = plain_mode config.mode;
      place = config.place;
    }

-- what is kept of a step
abbrev pub plain_step : Step → Step
plain_step (On other config) = On other (plain_config config)
plain_step (Ends expr place) = Ends (plain_tree expr) place
plain_step (Refused place) = Refused place

-- what is kept of what is read
abbrev pub plain_try : Try ExprTree → Try ExprTree
plain_try (Reads expr place reach) = Reads (plain_tree expr) place reach
plain_try (Stops reach) = Stops reach

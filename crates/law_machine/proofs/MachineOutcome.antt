-- What the machine of expressions comes to in front of tokens, where no other way was tried before.
use Rattle.std.specs.Prelude.{ℕ, zero, suc, List, length, Option, Some, None, Ok, []}
use Rattle.def_token.specs.Lexical.{Token}
use Rattle.def_tree.specs.ExprTree.{ExprTree}
use Rattle.def_tree.specs.Limits.{Nesting}
use Rattle.def_reading.specs.Cursor.{Told, Cursor, At, long_of, before, earlier, FarthestFailure, reach_at, further}
use Rattle.def_reading.specs.TypeReading.{Reading, nowhere}
use Rattle.def_reading.specs.Try.{told_to}
use Rattle.def_reading.specs.Machine.{Config, Expected, Step, On, Ends, Refused, step}

-- an expression, the place behind it, and how far other ways go; or how far tokens are read where there is none
pub data Outcome : Type 0 where
  Whole : ExprTree → Cursor → Option FarthestFailure → Outcome
  Stopped : Option FarthestFailure → Outcome

module _ (around : Nesting) (long : Option Told) where
  -- how far tokens are read where a place is refused
  abbrev pub refused_at : Option FarthestFailure → Cursor → Outcome
  refused_at reach (At at limit tokens) = Stopped (further reach (reach_at long at (At at limit tokens)))

  -- what a step comes to, if what is behind it comes to this
  abbrev pub run_by : (Option FarthestFailure → Config → Outcome) → Option FarthestFailure → Step → Outcome
  run_by more reach (On other config) = more (further reach other) config
  run_by more reach (Ends expr place) = Whole expr place reach
  run_by more reach (Refused place) = refused_at reach place

  -- what the machine comes to in at most so many steps
  abbrev pub run : ℕ → Option FarthestFailure → Config → Outcome
  run zero reach config = Stopped reach
  run (suc turns) reach config = run_by (run turns) reach (step around long config)

-- the machine in front of tokens
abbrev pub started : List Token → Config
started tokens = record { frames = []; mode = Expected; place = At 0 None tokens }

-- what the machine comes to in front of tokens
abbrev pub outcome_of : Nesting → List Token → Outcome
outcome_of around tokens = run around (long_of tokens) (suc (length tokens)) None (started tokens)

-- an expression, if no limit ends at a token of it
abbrev pub unless : Option Told → ExprTree → List Token → Reading ExprTree
unless None expr rest = Ok (expr, rest)
unless (Some told) expr rest = told_to told

-- what is read where the machine comes to this, if expressions are too long at `long`
abbrev pub read_by : Option Told → Outcome → Reading ExprTree
read_by long (Whole expr (At at limit rest) reach) = unless (earlier limit (before at long)) expr rest
read_by long (Stopped None) = nowhere
read_by long (Stopped (Some reach)) = told_to reach.told

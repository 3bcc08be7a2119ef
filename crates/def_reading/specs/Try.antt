-- How parts of tokens are read one behind another, with how far other ways go.
use Rattle.std.specs.Prelude.{ℕ, zero, suc, ◌+◌, Bool, true, false, List, [], ◌∷◌, length, drop, Option, Some, None, Ok, Err, codes}
use Rattle.std.specs.Str.{bytes_eq}
use Rattle.def_token.specs.Lexical.{Token}
use Rattle.def_tree.specs.ExprTree.{ExprTree}
use Rattle.def_tree.specs.Fault.{code_of}
use Rattle.def_tree.specs.Limits.{Nesting, Entry, Long, greatest_length, plain}
use Rattle.def_tree.specs.Operator.{sign_at}
use Rattle.def_tree.specs.Symbol.{Symbol, symbol, is_sign}
use Rattle.def_tree.specs.TypeTree.{TypeTree}
use Rattle.def_reading.specs.Machine.{Mode, Expected, Value, Dotted, Converting, Config, Step, On, Ends, Refused, step}
use Rattle.def_reading.specs.Cursor.{Told, Cursor, At, told_at, noted, advance, passed, before, earlier, FarthestFailure, reach_at, further}
use Rattle.def_reading.specs.TypeAhead.{LookAhead, Found, Missing, type_ahead}
use Rattle.def_reading.specs.TypeReading.{Reading, nowhere}

-- a tree, the place behind it, and how far other ways go; or how far tokens are read where there is
-- none
pub data Try (A : Type 0) : Type 0 where
  Reads : A → Cursor → Option FarthestFailure → Try A
  Stops : Option FarthestFailure → Try A

-- what is read at a place, beside other ways
abbrev pub Reader : Type 0 → Type 0
Reader A = Option FarthestFailure → Cursor → Try A

-- what is read behind something
abbrev pub try_then : {A B : Type 0} → (A → Reader B) → Try A → Try B
try_then next (Reads a place reach) = next a reach place
try_then next (Stops reach) = Stops reach

-- a tree made of what is read
abbrev pub try_as : {A B : Type 0} → (A → B) → Try A → Try B
try_as make (Reads a place reach) = Reads (make a) place reach
try_as make (Stops reach) = Stops reach

-- what is read, or else what is read at the same place in another way
abbrev pub or_else : {A : Type 0} → Reader A → Cursor → Try A → Try A
or_else other start (Reads a place reach) = Reads a place reach
or_else other start (Stops reach) = other reach start

-- the place, with the first limit that ends before it
abbrev pub settled : Cursor → Cursor
settled (At at limit tokens) = At at (before at limit) tokens

-- no token goes on at the place
abbrev pub refused : {A : Type 0} → Reader A
refused reach place = Stops (further reach (reach_at None 0 (settled place)))

-- the place, where something more ends at its first token
abbrev pub opened : Entry → Cursor → Cursor
opened entry (At at limit []) = At at limit []
opened entry (At at limit (token ∷ tokens)) = At at (noted limit entry at token) (token ∷ tokens)

-- what is read behind a token with this entry that passes a test, or else what is read at the token
abbrev pub choice_by : {A : Type 0}
    → Bool → Entry → (Token → Reader A) → Reader A → Option FarthestFailure → Token → Cursor → Try A
choice_by true entry yes' no' reach token place = yes' token reach (advance entry place)
choice_by false entry yes' no' reach token place = no' reach place

-- what is read behind the next token, if it passes a test, or else what is read at it
abbrev pub choice : {A : Type 0} → (Symbol → Bool) → Entry → (Token → Reader A) → Reader A
    → Reader A
choice test entry yes' no' reach (At at limit []) = no' reach (At at limit [])
choice test entry yes' no' reach (At at limit (token ∷ tokens)) =
    choice_by (test (symbol token)) entry yes' no' reach token (At at limit (token ∷ tokens))

-- what is read behind a token with this entry that passes a test
abbrev pub token_then : {A : Type 0} → (Symbol → Bool) → Entry → (Token → Reader A) → Reader A
token_then test entry next = choice test entry next refused

-- what is read up to a mark
abbrev pub up_to : {A : Type 0} → (Symbol → Bool) → Try A → Try A
up_to test = try_then (λ a. token_then test plain (λ mark reach place. Reads a place reach))

-- parts with a comma between them, in at most so many turns
abbrev pub listed : {A B : Type 0} → (A → B → B) → B → Reader A → ℕ → Reader B
listed more none part zero reach place = refused reach place
listed more none part (suc turns) reach place =
    try_then (λ a.
    choice (is_sign ",") plain
    (λ comma reach place. try_as (more a) (listed more none part turns reach place))
    (λ reach place. Reads (more a none) place reach))
    (part reach place)

-- the tokens of a place
abbrev pub ahead : Cursor → List Token
ahead (At at limit tokens) = tokens

-- where an expression with these tokens is too long, if they are so many
abbrev pub long_from : Cursor → Option Told
long_from (At at limit tokens) =
    told_at (code_of Long) (at + greatest_length) (drop greatest_length tokens)

-- the place, and how far it goes, behind an expression that is too long at `long`
abbrev pub finished : Option Told → Cursor → Cursor
finished long (At at limit tokens) = At at (earlier limit (before at long)) tokens

-- how far a place is, if expressions are too long at `long`
abbrev pub reach_in : Option Told → Cursor → Option FarthestFailure
reach_in long (At at limit tokens) = reach_at long at (At at limit tokens)

-- Other ways, by whether an assignment may stand behind the expression: if it may not, an
-- expression does not end before `>>=`.
abbrev pub way_by : Bool → Mode → Option FarthestFailure → Option FarthestFailure
way_by true mode other = other
way_by false Expected other = other
way_by false (Value value) other = None
way_by false (Dotted base) other = None
way_by false (Converting word token) other = None

-- `>>=` where no assignment may stand is `>>`, and the `=` does not go on
abbrev pub assign_ends : Bool → List Token → Bool
assign_ends true tokens = false
assign_ends false tokens = bytes_eq (sign_at tokens).0 (codes ">>=")

module _ (around : Nesting) (assigns : Bool) (long : Option Told) where
  -- no token goes on at the place
  abbrev pub refused_in : Reader ExprTree
  refused_in reach place = Stops (further reach (reach_in long (settled place)))

  abbrev pub end_by : Bool → Option FarthestFailure → ExprTree → Cursor → Try ExprTree
  end_by true reach expr place = refused_in reach (passed (plain ∷ plain ∷ []) place)
  end_by false reach expr place = Reads expr (finished long place) reach

  -- what a step comes to, if what is behind it comes to this
  abbrev pub run_by : (Option FarthestFailure → Config → Try ExprTree) → Mode
      → Option FarthestFailure → Step → Try ExprTree
  run_by more mode reach (On other config) = more (further reach (way_by assigns mode other)) config
  run_by more mode reach (Ends expr place) =
      end_by (assign_ends assigns (ahead place)) reach expr place
  run_by more mode reach (Refused place) = refused_in reach place

  -- what the machine comes to in at most so many steps
  abbrev pub run : ℕ → Option FarthestFailure → Config → Try ExprTree
  run zero reach config = refused_in reach config.place
  run (suc turns) reach config = run_by (run turns) config.mode reach (step around long config)

-- the machine at a place
abbrev pub started : Cursor → Config
started place = record { frames = []; mode = Expected; place = place }

-- a whole expression, behind which an assignment may stand or not
abbrev pub expr_in : Bool → Nesting → Reader ExprTree
expr_in assigns around reach place =
    run around assigns (long_from place) (suc (length (ahead place))) reach (started place)

-- what a look for types comes to, beside other ways
abbrev pub look_by : {A : Type 0} → Option FarthestFailure → LookAhead A → Try A
look_by reach (Found a place) = Reads a place reach
look_by reach (Missing place) = refused reach place

-- a type
abbrev pub type_in : Nesting → Reader TypeTree
type_in around reach place = look_by reach (type_ahead (length (ahead place)) around.types place)

-- a reader that stops where this is told
abbrev pub told_to : {A : Type 0} → Told → Reading A
told_to told = Err (record { token = told.token; code = told.code })

-- what is read, if no limit ends at a token of it, or where reading stops
abbrev pub read_by : {A : Type 0} → Try A → Reading A
read_by (Reads a (At at None rest) reach) = Ok (a, rest)
read_by (Reads a (At at (Some told) rest) reach) = told_to told
read_by (Stops None) = nowhere
read_by (Stops (Some reach)) = told_to reach.told

-- an expression inside what is open
abbrev pub expr_of : Nesting → List Token → Reading ExprTree
expr_of around tokens = read_by (expr_in true around None (At 0 None tokens))

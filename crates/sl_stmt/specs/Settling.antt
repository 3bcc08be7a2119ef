-- What statements promise, whose blocks and bodies may be nested too deep.
use Rattle.std.specs.Prelude.{◌≡◌, ℕ, suc, ◌+◌, ◌<◌, ◌^◌, ◌⊎◌, Bool, true, nat_lt, List, length, Option, Some, None, Result, Ok, Err}
use Rattle.std.specs.Option.{option_map}
use Rattle.def_tree.specs.ExprTree as exprs
use Rattle.def_tree.specs.Limits as limits
use Rattle.def_tree.specs.Limits.{Entry}
use Rattle.def_tree.specs.StmtTree as stmts
use Rattle.def_tree.specs.StmtTree.{StmtTrees}
use Rattle.def_tree.specs.Symbol.{is_sign}
use Rattle.def_reading.specs.Cursor as places
use Rattle.def_reading.specs.StmtReading as reading
use Rattle.def_reading.specs.Try as lists
use Rattle.sl_tree.specs.View.{expr_in, simple_in, start_in}
use Rattle.sl_cursor.specs.Following.{IsRead}
use Rattle.sl_cursor.specs.Seen.{place_in, reach_in, told_in}
use Rattle.sl_cursor.specs.Tries.{on_lists}
use Rattle.sl_cursor.specs.declared.nesting.Nesting.{Nesting}
use Rattle.sl_cursor.specs.declared.cursor.FarthestFailure.{FarthestFailure}
use Rattle.sl_cursor.specs.declared.cursor.Told.{Told}
use Rattle.sl_cursor.specs.declared.source.Here.{Here}
use Rattle.sl_cursor.specs.declared.source.Source.{Source}
use Rattle.sl_cursor.specs.declared.source.Unread.{Unread}
use Rattle.sl_cursor.specs.declared.source.Unread.TheVariants as unread
use Rattle.sl_stmt.specs.declared.statements.Head.{Head}
use Rattle.sl_stmt.specs.declared.statements.Opening.{Opening}
use Rattle.sl_stmt.specs.declared.statements.Opening.TheVariants as opening

-- a way ends before a place, or this is told of it
abbrev pub IsOver : places.Told → ℕ → Option places.FarthestFailure → Type 0
IsOver told at None = Unit {0}
IsOver told at (Some reach) = (reach.many < at) ⊎ (reach.told ≡ told)

-- whatever a reader comes to, and whatever stands behind it, this is told
abbrev pub IsDecided : {B : Type 0} → places.Told → lists.Try B → Type 0
IsDecided told (lists.Reads tree (places.At at limit tokens) reach) =
    (limit ≡ Some told) × (told.at < at) × IsOver told at reach
IsDecided told (lists.Stops None) = ⊥
IsDecided told (lists.Stops (Some reach)) = reach.told ≡ told

-- what a form with statements comes to, if memory did not run out
abbrev pub Settles : {A B : Type 0} → Source → (A → B) → lists.Reader B → Here
    → Result (A × Here) Unread → Type 0
Settles source view reader from (Ok found) = IsRead source view reader from found.0 found.1
Settles source view reader from (Err (unread.Refused reach)) =
    on_lists source reader from ≡ lists.Stops (option_map (reach_in source.bytes.now) reach)
Settles source view reader from (Err (unread.Deep told)) =
    IsDecided (told_in source.bytes.now told) (on_lists source reader from)
Settles source view reader from (Err unread.NoMemory) = Unit {0}

-- the same in any number of turns that is greater than that of the tokens
abbrev pub SettlesIn : {A B : Type 0} → Source → (A → B) → (ℕ → lists.Reader B) → Here
    → Result (A × Here) Unread → Type 0
SettlesIn source view reader from result =
    (turns : ℕ) → length from.place.rest.now < turns
    → Settles source view (reader turns) from result

-- forms of each kind can be counted, so many more and one for each token that is left
pub record IsRoomy (source : Source) (around : Nesting) (more : ℕ) (here : Here) : Type 0 where
  pub blocks : around.blocks + more + length source.tokens.now < 2 ^ 64 + here.place.at
  pub statements : around.statements + more + length source.tokens.now < 2 ^ 64 + here.place.at
  pub brackets : around.brackets + 1 < 2 ^ 62

-- a way ends before a place
abbrev pub is_short : ℕ → Option FarthestFailure → Bool
is_short at None = true
is_short at (Some reach) = nat_lt reach.many at

-- a limit stands before a place that no way reaches
pub record IsSettled (told : Told) (here : Here) : Type 0 where
  pub limit : here.place.limit ≡ Some told
  pub before : told.at < here.place.at
  pub short : is_short here.place.at here.reach ≡ true

-- what is told whatever stands behind, if a limit stands before a place that no way reaches
abbrev pub MaySettle : Here → Option Told → Type 0
MaySettle here None = Unit {0}
MaySettle here (Some told) = IsSettled told here

-- what stands between the brackets of a `for`
pub record HeadTree : Type 0 where
  pub start : stmts.StartTree
  pub condition : Option exprs.ExprTree
  pub step : Option stmts.SimpleTree

-- the head that one of the program stands for
abbrev pub head_in : List ℕ → Head → HeadTree
head_in source head =
    record {
      start = start_in source head.start;
      condition = option_map (expr_in source) head.condition;
      step = option_map (simple_in source) head.step;
    }

-- a head made of its parts
abbrev pub headed : stmts.StartTree → Option exprs.ExprTree → Option stmts.SimpleTree → HeadTree
headed start condition step = record { start = start; condition = condition; step = step }

-- the head of a `for`
abbrev pub head_read : limits.Nesting → lists.Reader HeadTree
head_read around =
    let bracket = limits.in_bracket around in
    lists.token_then (is_sign "(") (limits.opens bracket.brackets) (λ opening reach place.
    lists.try_then (λ start reach place.
    lists.try_then (λ condition reach place.
    lists.try_as (headed start condition) (reading.maybe_simple_in bracket reach place))
    (reading.maybe_expr_in bracket reach place)) (reading.start_in bracket reach place))

-- the same place, where something more ends at its next token
pub record IsBegun (source : Source) (entry : Entry) (from to : Here) : Type 0 where
  pub place : place_in source.bytes.now to.place
      ≡ lists.opened entry (place_in source.bytes.now from.place)
  pub rises : to.place.limit ≡ None → from.place.limit ≡ None
  pub stays : to.place.at ≡ from.place.at
  pub rest : to.place.rest.now ≡ from.place.rest.now
  pub reach : to.reach ≡ from.reach

-- a sign with which statements begin, as the functions on lists have it
abbrev pub opening_in : Opening → reading.Opening
opening_in opening.Brace = reading.Brace
opening_in opening.Semicolon = reading.Semicolon
opening_in opening.Return = reading.Return
opening_in opening.Break = reading.Break
opening_in opening.Continue = reading.Continue
opening_in opening.If = reading.If
opening_in opening.While = reading.While
opening_in opening.For = reading.For

-- statements up to the closing brace, inside what is open, each in at most so many turns
abbrev pub stmts_in : limits.Nesting → ℕ → lists.Reader StmtTrees
stmts_in around turns reach place =
    reading.stmts_in (reading.stmt_in turns around) (suc (length (lists.ahead place))) reach place

-- statements up to the closing brace, inside what is open
abbrev pub stmts_read : limits.Nesting → lists.Reader StmtTrees
stmts_read around reach place = stmts_in around (suc (length (lists.ahead place))) reach place

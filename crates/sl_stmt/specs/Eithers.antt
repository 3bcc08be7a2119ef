-- Locals, or simple statements.
use Rattle.std.specs.Prelude.{ℕ, ◌<◌, Bool, true, false, List, Option, Result, Ok, Err}
use Rattle.std.specs.Option.{option_map}
use Rattle.def_tree.specs.Limits.{Nesting}
use Rattle.def_tree.specs.StmtTree as stmts
use Rattle.def_reading.specs.Cursor as lists
use Rattle.def_reading.specs.StmtReading as reading
use Rattle.def_reading.specs.Try.{Try, Stops, Reader}
use Rattle.sl_tree.specs.View.{local_in, simple_in}
use Rattle.sl_cursor.specs.Following.{Follows}
use Rattle.sl_cursor.specs.Seen.{reach_in}
use Rattle.sl_stmt.specs.declared.either.Either.{Either}
use Rattle.sl_stmt.specs.declared.either.Either.TheVariants as either
use Rattle.sl_cursor.specs.declared.cursor.FarthestFailure.{FarthestFailure}
use Rattle.sl_cursor.specs.declared.source.Here.{Here}
use Rattle.sl_cursor.specs.declared.source.Source.{Source}
use Rattle.sl_cursor.specs.declared.source.Unread.{Unread}

-- a local or a simple statement, as the definitions have them
pub data EitherTree : Type 0 where
  ALocal : stmts.LocalTree → EitherTree
  ASimple : stmts.SimpleTree → EitherTree

-- what is read, as the definitions have it
abbrev pub either_in : List ℕ → Either → EitherTree
either_in source (either.Local local) = ALocal (local_in source local)
either_in source (either.Simple simple) = ASimple (simple_in source simple)

-- what is made of a local or a simple statement
abbrev pub made_of : {A : Type 0} → (stmts.LocalTree → A) → (stmts.SimpleTree → A) → EitherTree → A
made_of local simple (ALocal tree) = local tree
made_of local simple (ASimple tree) = simple tree

-- a local, or else a simple statement, up to a semicolon
abbrev pub either_read : Nesting → Reader EitherTree
either_read around = reading.either_in ALocal ASimple around

-- what is read has tokens
abbrev pub GoesOn : {A : Type 0} → Here → Result (A × Here) Unread → Type 0
GoesOn from (Ok found) = from.place.at < found.1.place.at
GoesOn from (Err stop) = Unit {0}

-- a simple statement where no local stands and ways go as far as this, unless a local is begun
abbrev pub else_by : Bool → Nesting → Option lists.FarthestFailure → lists.Cursor → Try EitherTree
else_by true around reach place = Stops reach
else_by false around reach place = reading.simple_up_to ASimple around reach place

-- what stands at a place where no local does, with the ways of one
abbrev pub IsOtherwise : Source → Nesting → Option FarthestFailure → Here
    → Result (Either × Here) Unread → Type 0
IsOtherwise source around reach from result =
    Follows source (either_in source.bytes.now)
    (λ other place. else_by (reading.declares around place) around
    (option_map (reach_in source.bytes.now) reach) place)
    from result

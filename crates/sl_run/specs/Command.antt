-- The words of the command line that are a command.
use Rattle.std.specs.Prelude.{ℕ, ◌&&◌, Option, Some, None, List, [], ◌∷◌, if◌then◌else◌, codes}
use Rattle.std.specs.Str.{bytes_eq}
use Rattle.def_slang.specs.Name.{is_name}

-- what the program is asked to do: one entry point of the input, or the loading of a module
pub data Command : Type 0 where
  One : List ℕ → Command
  Check : List ℕ → Command

-- the command to check the module of a name, if it is one
abbrev pub check_of : List ℕ → Option Command
check_of name = if is_name name then Some (Check name) else None

-- the command of a word and the name behind it, if it is one
abbrev pub command_with : List ℕ → List ℕ → Option Command
command_with word name =
    if bytes_eq word (codes "one") && is_name name then Some (One name)
    else if bytes_eq word (codes "check") then check_of name
    else None

-- the command that the words are, if they are one
abbrev pub command_of : List (List ℕ) → Option Command
command_of [] = None
command_of (word ∷ []) = None
command_of (word ∷ name ∷ []) = command_with word name
command_of (word ∷ name ∷ other ∷ others) = None

-- What the laws of this crate say.
use Rattle.std.specs.Prelude.{◌≡◌, List, Ok, Err}
use Rattle.def_token.specs.Lexical.{Token}
use Rattle.def_tree.specs.Fault.{fault_at, IsRead, HasFault}
use Rattle.def_module.specs.DeclTree.{ModuleTree}
use Rattle.def_module.specs.Entries.{module_entries}
use Rattle.def_module.specs.Module.{IsModule}
use Rattle.def_reading.specs.TypeReading.{Ended, Reading}
use Rattle.def_decl_reading.specs.DeclReading.{module_of}

-- What is read is the module that the tokens are, within the limits; else it stops where the tokens
-- have their fault.
abbrev pub IsExactModule : List Token → Reading ModuleTree → Type 0
IsExactModule tokens (Ok found) = IsRead IsModule module_entries tokens found.0 found.1
IsExactModule tokens (Err stop) =
    HasFault IsModule module_entries tokens (fault_at stop.code stop.token)

-- What is read is a module within the limits. Where tokens are a module, whatever the limits, what
-- is read is exact: the module, or what is told at the first limit.
pub record ModulesAreRead : Type 0 where
  pub only : (tokens : List Token) (tree : ModuleTree) (rest : List Token)
      → module_of tokens ≡ Ok (tree, rest) → IsRead IsModule module_entries tokens tree rest
  pub each : (tokens : List Token) (tree : ModuleTree) (rest : List Token) → Ended tokens
      → IsModule tokens tree rest → IsExactModule tokens (module_of tokens)

-- what is read of modules is exact
abbrev pub ModulesAreExact : Type 0
ModulesAreExact = (tokens : List Token) → Ended tokens → IsExactModule tokens (module_of tokens)

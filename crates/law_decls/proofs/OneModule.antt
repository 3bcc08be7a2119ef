-- What is told of the tokens of a module is determined.
use Rattle.std.proofs.Common.{List}
use Rattle.def_token.specs.Lexical.{Token}
use Rattle.def_tree.specs.Fault.{AreRefusedLast, IsDetermined, Spot}
use Rattle.def_module.specs.Entries.{module_entries}
use Rattle.def_module.specs.Module.{IsModule}
use Rattle.law_tree.proofs.Determined.{determined, refused_last}
use Rattle.law_decls.proofs.ModuleRead.{one_module}

pub modules_determined : (tokens : List Token) → IsDetermined IsModule module_entries tokens
modules_determined tokens = determined IsModule module_entries one_module tokens

pub modules_last : (tokens : List Token) (spot : Spot) → AreRefusedLast IsModule module_entries tokens spot
modules_last tokens spot = refused_last IsModule module_entries tokens spot

-- The reader of modules on lists is exact in front of the tokens of a source.
use Rattle.std.proofs.Common.{List}
use Rattle.std.specs.Prelude.{None}
use Rattle.def_token.specs.Lexical.{Token}
use Rattle.def_module.specs.Entries.{module_entries}
use Rattle.def_module.specs.Module.{IsModule}
use Rattle.def_reading.specs.Cursor.{At}
use Rattle.def_reading.specs.TypeReading.{Ended}
use Rattle.def_decl_reading.specs.DeclReading.{module_in}
use Rattle.law_decls.proofs.ModuleExact.{modules_are_exact}
use Rattle.sl_stmt.proofs.Answered.{IsExactTry}

pub module_exact : (tokens : List Token) → Ended tokens
    → IsExactTry IsModule module_entries tokens (module_in None (At 0 None tokens))
module_exact tokens e = modules_are_exact tokens e

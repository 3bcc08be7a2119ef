use Rattle.law_decls.proofs.ModuleRead.{one_module}
use Rattle.law_decls.proofs.laws.modules_are_unique.Goals as goal

pub returns : goal.returns
returns c = one_module

use Rattle.law_decls.proofs.ModuleExact.{modules_are_exact}
use Rattle.law_decls.proofs.laws.modules_are_exact.Goals as goal

pub returns : goal.returns
returns c = modules_are_exact

use Rattle.law_decls.proofs.ModuleRead.{modules_are_read}
use Rattle.law_decls.proofs.laws.modules_are_read.Goals as goal

pub returns : goal.returns
returns c = modules_are_read

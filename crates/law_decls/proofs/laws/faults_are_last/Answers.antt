use Rattle.law_decls.proofs.OneModule.{modules_last}
use Rattle.law_decls.proofs.laws.faults_are_last.Goals as goal

pub returns : goal.returns
returns c = modules_last

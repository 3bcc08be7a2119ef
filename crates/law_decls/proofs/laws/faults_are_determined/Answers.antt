use Rattle.law_decls.proofs.OneModule.{modules_determined}
use Rattle.law_decls.proofs.laws.faults_are_determined.Goals as goal

pub returns : goal.returns
returns c = modules_determined

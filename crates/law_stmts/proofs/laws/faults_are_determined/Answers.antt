use Rattle.law_stmts.proofs.OneStmt.{all_determined}
use Rattle.law_stmts.proofs.laws.faults_are_determined.Goals as goal

pub returns : goal.returns
returns c = all_determined

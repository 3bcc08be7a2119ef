use Rattle.law_stmts.proofs.OneStmt.{all_last}
use Rattle.law_stmts.proofs.laws.faults_are_last.Goals as goal

pub returns : goal.returns
returns c = all_last

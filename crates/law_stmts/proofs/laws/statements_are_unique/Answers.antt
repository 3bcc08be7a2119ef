use Rattle.law_stmts.proofs.OneStmt.{one_stmt}
use Rattle.law_stmts.proofs.laws.statements_are_unique.Goals as goal

pub returns : goal.returns
returns c = one_stmt

use Rattle.law_stmts.proofs.StmtExact.{statements_are_exact}
use Rattle.law_stmts.proofs.laws.statements_are_exact.Goals as goal

pub returns : goal.returns
returns c = statements_are_exact

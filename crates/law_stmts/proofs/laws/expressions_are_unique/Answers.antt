use Rattle.law_exprs.proofs.OneTree.{one_expr}
use Rattle.law_stmts.proofs.laws.expressions_are_unique.Goals as goal

pub returns : goal.returns
returns c = one_expr

use Rattle.law_exprs.proofs.OneRun.{expressions_are_exact}
use Rattle.law_exprs.proofs.laws.expressions_are_exact.Goals as goal

pub returns : goal.returns
returns c = expressions_are_exact

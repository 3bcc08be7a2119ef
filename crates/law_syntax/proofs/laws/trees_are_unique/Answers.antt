use Rattle.law_syntax.proofs.Unique.{trees_unique}
use Rattle.law_syntax.proofs.laws.trees_are_unique.Goals as goal

pub returns : goal.returns
returns c = trees_unique

use Rattle.law_syntax.proofs.Telling.{trees_are_told}
use Rattle.law_syntax.proofs.laws.trees_are_told.Goals as goal

pub returns : goal.returns
returns c = trees_are_told

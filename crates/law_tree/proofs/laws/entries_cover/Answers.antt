use Rattle.law_tree.proofs.StmtsCovered.{all_covered}
use Rattle.law_tree.proofs.laws.entries_cover.Goals as goal

pub returns : goal.returns
returns c = all_covered

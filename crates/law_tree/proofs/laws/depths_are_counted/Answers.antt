use Rattle.law_tree.proofs.DepthsCounted.{depths_are_counted}
use Rattle.law_tree.proofs.laws.depths_are_counted.Goals as goal

pub returns : goal.returns
returns c = depths_are_counted

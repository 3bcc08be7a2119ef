use Rattle.law_module.proofs.Depths.{depths_are_counted}
use Rattle.law_module.proofs.laws.depths_are_counted.Goals as goal

pub returns : goal.returns
returns c = depths_are_counted

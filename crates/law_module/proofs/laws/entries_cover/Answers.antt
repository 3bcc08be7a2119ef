use Rattle.law_module.proofs.Covered.{modules_covered}
use Rattle.law_module.proofs.laws.entries_cover.Goals as goal

pub returns : goal.returns
returns c = modules_covered

use Rattle.law_module.proofs.Names.{names_told}
use Rattle.law_module.proofs.laws.names_are_told.Goals as goal

pub returns : goal.returns
returns c = names_told

use Rattle.law_syntax.proofs.Telling.{syntax_is_told}
use Rattle.law_syntax.proofs.laws.syntax_is_told.Goals as goal

pub returns : goal.returns
returns c = syntax_is_told

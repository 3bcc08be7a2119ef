use Rattle.law_syntax.proofs.Unique.{syntax_determined}
use Rattle.law_syntax.proofs.laws.syntax_is_determined.Goals as goal

pub returns : goal.returns
returns c = syntax_determined

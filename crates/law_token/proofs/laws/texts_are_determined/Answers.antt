use Rattle.law_token.proofs.Determined.{determined}
use Rattle.law_token.proofs.laws.texts_are_determined.Goals as goal

pub returns : goal.returns
returns c = determined

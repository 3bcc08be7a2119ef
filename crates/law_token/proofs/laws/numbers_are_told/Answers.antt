use Rattle.law_token.proofs.Numbers.{told}
use Rattle.law_token.proofs.laws.numbers_are_told.Goals as goal

pub returns : goal.returns
returns c = told

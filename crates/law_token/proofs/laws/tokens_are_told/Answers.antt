use Rattle.law_token.proofs.Lexing.{tokens_are_told}
use Rattle.law_token.proofs.laws.tokens_are_told.Goals as goal

pub returns : goal.returns
returns c = tokens_are_told

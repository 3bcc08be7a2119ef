use Rattle.law_token.proofs.Fitting.{sequence}
use Rattle.law_token.proofs.laws.tokens_are_sequences.Goals as goal

pub returns : goal.returns
returns c = sequence

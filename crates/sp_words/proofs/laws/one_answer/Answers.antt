use Rattle.sp_words.proofs.Decoded.{one_answer}
use Rattle.sp_words.proofs.laws.one_answer.Goals as goal

pub returns : goal.returns
returns c = one_answer

use Rattle.sp_words.proofs.Spelling.{one_spelling}
use Rattle.sp_words.proofs.laws.one_spelling.Goals as goal

pub returns : goal.returns
returns c = one_spelling

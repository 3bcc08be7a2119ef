use Rattle.std.proofs.Common.{length}
use Rattle.sp_words.proofs.TextWords.{HasPushed}
use Rattle.sp_words.proofs.text.push_text.Given as goal

abbrev pub invariant-loop-rest : goal.invariant-loop-rest
invariant-loop-rest l = HasPushed l.text l.initial.operands l.operands l.rest

abbrev pub decreases-loop-rest : goal.decreases-loop-rest
decreases-loop-rest l = length l.rest

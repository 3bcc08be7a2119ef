use Rattle.std.proofs.Common.{length}
use Rattle.sp_words.proofs.Instructions.{HasRead}
use Rattle.sp_words.proofs.decoding.read_instructions.Given as goal

abbrev pub invariant-loop-rest : goal.invariant-loop-rest
invariant-loop-rest l = HasRead l.words l.insts l.rest l.at

abbrev pub decreases-loop-rest : goal.decreases-loop-rest
decreases-loop-rest l = length l.rest

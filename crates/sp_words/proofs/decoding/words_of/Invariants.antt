use Rattle.std.proofs.Common.{◌≡◌, ◌++◌, length}
use Rattle.sp_words.specs.Decoding.{words_of}
use Rattle.sp_words.proofs.decoding.words_of.Given as goal

-- the words so far, and those of the rest, are the words of the bytes
abbrev pub invariant-loop-rest : goal.invariant-loop-rest
invariant-loop-rest l = words_of l.bytes ≡ l.words ++ words_of l.rest

abbrev pub decreases-loop-rest : goal.decreases-loop-rest
decreases-loop-rest l = length l.rest

use Rattle.std.proofs.Common.{◌≡◌, take}
use Rattle.def_spirv.specs.Words.{word_bytes}
use Rattle.sp_places.proofs.operands.bytes_of.Given as goal

abbrev pub invariant-loop-word : goal.invariant-loop-word
invariant-loop-word l = l.bytes ≡ word_bytes (take l.word-index l.words)

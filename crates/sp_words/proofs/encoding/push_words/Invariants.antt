use Rattle.std.proofs.Common.{◌≡◌, ◌++◌, take}
use Rattle.def_spirv.specs.Words.{word_bytes}
use Rattle.sp_words.proofs.encoding.push_words.Given as goal

-- the words so far are written
abbrev pub invariant-loop-word : goal.invariant-loop-word
invariant-loop-word l = l.bytes ≡ l.initial.bytes ++ word_bytes (take l.word-index l.words)

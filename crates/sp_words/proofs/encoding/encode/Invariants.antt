use Rattle.std.proofs.Common.{◌≡◌, map, take}
use Rattle.def_spirv.specs.Words.{spelling}
use Rattle.sp_words.specs.View.{instruction_of}
use Rattle.sp_words.proofs.encoding.encode.Given as goal

-- the bytes are the spelling of the module with the instructions so far
abbrev pub invariant-loop-inst : goal.invariant-loop-inst
invariant-loop-inst l =
    l.bytes ≡ spelling (record {
      generator = l.words.generator;
      bound = l.words.bound;
      instructions = map instruction_of (take l.inst-index l.words.insts);
    })

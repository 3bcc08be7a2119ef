use Rattle.std.proofs.Common.{◌≡◌, map, arith}
use Rattle.std.proofs.lemmas.Grind.{common_steps}
use Rattle.sp_words.specs.View.{instruction_of}
use Rattle.sl_run.proofs.Emitted.{emitted_of_instructions}
use Rattle.sl_run.proofs.Short.{all_fit}
use Rattle.sl_run.specs.Instructions.{instructions_of}
use Rattle.sl_run.specs.Reading.{write_of}
use Rattle.sl_run.proofs.module.module.Goals as goal

-- the sections are pushed in their order
pub returns : goal.returns
returns c =
    let w = write_of c.args.write.now in
    let pushed : map instruction_of c.into_list.result ≡ instructions_of w = grind (arith, common_steps) in
    record {
      emitted = emitted_of_instructions w (map instruction_of c.into_list.result) pushed;
      fit = all_fit w c.into_list.result c.requires.buffer c.requires.entry pushed;
    }

use Rattle.std.proofs.Common.{◌≡◌, ℕ, List, subst}
use Rattle.std.specs.Prelude.{IfOk}
use Rattle.def_spirv.specs.Words.{Module, spelling}
use Rattle.sl_run.proofs.Names.{free_name_short}
use Rattle.sl_run.proofs.compile.code_of.Goals as goal

pub module-requires-clause-buffer : goal.module-requires-clause-buffer
module-requires-clause-buffer c = free_name_short c.args.write.now.buffer.now c.requires.buffer

pub module-requires-clause-entry : goal.module-requires-clause-entry
module-requires-clause-entry c = free_name_short c.args.write.now.entry.now c.requires.entry

pub returns : goal.returns
returns c =
    subst (λ (m : Module). IfOk c.encode.result (λ (bytes : List ℕ). bytes ≡ spelling m)) c.in_ok-words.ensures.emitted c.encode.ensures

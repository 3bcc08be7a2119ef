use Rattle.sl_run.proofs.Compilations as compilations
use Rattle.sl_run.proofs.laws.one_compilation.Goals as goal

pub returns : goal.returns
returns c = compilations.one_compilation

use Rattle.sl_roots.proofs.Kept.{keep_refl}
use Rattle.sl_run.proofs.alone.run_alone.Goals as goal

pub returns-in-Ok-Some-One-clause-roots_keep : goal.returns-in-Ok-Some-One-clause-roots_keep
returns-in-Ok-Some-One-clause-roots_keep g c = keep_refl _

pub returns-in-Ok-None-clause-roots_keep : goal.returns-in-Ok-None-clause-roots_keep
returns-in-Ok-None-clause-roots_keep g c = keep_refl _

pub returns-in-Err-clause-roots_keep : goal.returns-in-Err-clause-roots_keep
returns-in-Err-clause-roots_keep g c = keep_refl _

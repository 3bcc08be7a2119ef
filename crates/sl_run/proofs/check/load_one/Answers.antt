use Rattle.sl_roots.proofs.Kept.{keep_refl}
use Rattle.sl_run.proofs.Endings.{loaded, refused}
use Rattle.sl_run.proofs.check.load_one.Goals as goal

pub returns-in_err-names-clause-keeps : goal.returns-in_err-names-clause-keeps
returns-in_err-names-clause-keeps g c = keep_refl _

pub returns-clause-ok : goal.returns-clause-ok
returns-clause-ok g c =
    loaded _ _ c.in_ok-names.ensures _ _ c.load.result c.load.ensures.fetches c.load.ensures.well_formed c.load.ensures.told

pub returns-clause-err : goal.returns-clause-err
returns-clause-err g c =
    refused _ _ c.in_ok-names.ensures _ _ c.load.result c.load.ensures.fetches c.load.ensures.fault c.load.ensures.told

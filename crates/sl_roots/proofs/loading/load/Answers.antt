use Rattle.sl_roots.proofs.Results.{well_formed_loads, fault_loads, keeps_loads, told_loads}
use Rattle.sl_roots.proofs.loading.load.Goals as goal

pub returns-clause-well_formed : goal.returns-clause-well_formed
returns-clause-well_formed g c = well_formed_loads _ _ _ _ c.gather.ensures

pub returns-clause-fault : goal.returns-clause-fault
returns-clause-fault g c = fault_loads _ c.args.names.now _ _ c.gather.ensures

pub returns-clause-keeps : goal.returns-clause-keeps
returns-clause-keeps g c = keeps_loads c.gather.result c.args.names.now _ _ c.gather.ensures

pub returns-clause-told : goal.returns-clause-told
returns-clause-told g c = told_loads c.gather.result c.args.names.now _ _ c.gather.ensures

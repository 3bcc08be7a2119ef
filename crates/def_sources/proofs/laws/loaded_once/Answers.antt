use Rattle.def_sources.proofs.Walk.{loaded_once}
use Rattle.def_sources.proofs.laws.loaded_once.Goals as goal

pub returns : goal.returns
returns c = loaded_once

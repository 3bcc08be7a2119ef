use Rattle.def_reply.proofs.Culprits.{culprits_are_bad}
use Rattle.def_reply.proofs.laws.culprits_are_bad.Goals as goal

pub returns : goal.returns
returns c = culprits_are_bad

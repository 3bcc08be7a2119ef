use Rattle.def_reply.proofs.MadeOfGood.{made_of_good}
use Rattle.def_reply.proofs.laws.made_of_good.Goals as goal

pub returns : goal.returns
returns c = made_of_good

use Rattle.def_check.proofs.Replies.{one_reply}
use Rattle.def_check.proofs.laws.one_reply.Goals as goal

pub returns : goal.returns
returns c = one_reply

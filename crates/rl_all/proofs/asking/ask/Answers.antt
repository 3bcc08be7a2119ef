use Rattle.rl_all.proofs.Answering.{told_same}
use Rattle.rl_all.proofs.asking.ask.Goals as goal

pub returns-clause-answer : goal.returns-clause-answer
returns-clause-answer g c = λ answer tells.
    told_same (g.A.Asker.subject c.args.asker.now) answer tells c.args.key.now c.in_ok-answer.answer c.in_ok-answer.ensures.answer

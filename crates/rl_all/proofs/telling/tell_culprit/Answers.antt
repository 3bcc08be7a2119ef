use Rattle.std.proofs.Common.{◌∙◌, ◌++◌, ap, sym}
use Rattle.std.proofs.lemmas.Result.{on_ok_weaker}
use Rattle.def_check.specs.Reply.{broken}
use Rattle.rl_all.proofs.telling.tell_culprit.Goals as goal

pub returns-in-Bad-clause-told : goal.returns-in-Bad-clause-told
returns-in-Bad-clause-told g c =
    on_ok_weaker c.push.result
    (λ pushed f tells.
    pushed
    ∙ ap (λ a. c.args.told.now.items ++ broken (g.A.Asker.subject c.args.asker.now) f a)
    (sym c.in-Bad.is ∙ c.in_ok-diag.ensures.answer f tells))
    c.push.ensures

use Rattle.std.proofs.Common.{◌∙◌, ◌++◌, ap, arith}
use Rattle.std.proofs.lemmas.Result.{on_ok_weaker}
use Rattle.rl_all.proofs.Asked.{asks_none, asks_wider}
use Rattle.rl_all.proofs.Cycles.{told_cycle}
use Rattle.rl_all.proofs.telling.tell_cycle.Goals as goal

pub returns-in_err-syntax-clause-asks : goal.returns-in_err-syntax-clause-asks
returns-in_err-syntax-clause-asks g c = λ f tells.
    asks_wider g.met.A.Asker.wider (λ k i. absurd i) (asks_none c.args.asker.now c.args.steps.now)

pub returns-clause-told : goal.returns-clause-told
returns-clause-told g c =
    on_ok_weaker c.push.result
    (λ pushed f tells.
    pushed
    ∙ ap (λ ds. c.args.told.now.items ++ ds)
    (told_cycle (g.A.Asker.subject c.args.asker.now) f c.args.cycle.now c.least-item.result c.in_ok-syntax.syntax
    c.in_ok-ask.field-0 c.place_in-place.result c.in_ok-keys.keys c.in_ok-diag.diag
    (omega (arith, c.in-len1-up.len_at_least)) c.least-item.is
    c.in_ok-syntax.ensures (c.in_ok-ask.ensures.answer f tells) c.place_in-place.ensures
    c.in_ok-keys.ensures c.in_ok-diag.ensures))
    c.push.ensures

use Rattle.std.proofs.lemmas.Result.{err_from_is_err_and, on_err_weaker}
use Rattle.sp_words.proofs.TextWords.{HasPushed-word, HasPushed-some}
use Rattle.sp_words.proofs.text.push_text.Goals as goal

pub returns-in_err-push-clause-err : goal.returns-in_err-push-clause-err
returns-in_err-push-clause-err c =
    let p = err_from_is_err_and c.from_residual.result c.from_residual.ensures.1 in
    rw p.1 (rw c.in_err-push.ensures.err (HasPushed-some c.loop-rest.invariant))

pub loop-rest-preserved : goal.loop-rest-preserved
loop-rest-preserved c =
    HasPushed-word c.loop-rest.invariant c.in-len4-up.len_at_least
    c.from_le_bytes.ensures c.in_ok-push.ensures.ok

pub returns-clause-err : goal.returns-clause-err
returns-clause-err c =
    on_err_weaker c.push-2.result (λ e. rw e (HasPushed-some c.loop-rest.invariant))
    c.push-2.ensures.err

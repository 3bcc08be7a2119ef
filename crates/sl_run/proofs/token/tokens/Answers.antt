use Rattle.std.proofs.Common.{ℕ, ◌<◌, length, arith, take, drop, ap, ◌∙◌}
use Rattle.std.proofs.lemmas.List.{map-append}
use Rattle.std.proofs.lemmas.Bool.Decides.{nat_tests}
use Rattle.sl_run.proofs.Cuts.{cuts_one_more}
use Rattle.sl_run.proofs.token.tokens.Goals as goal

pub loop-rest-preserved : goal.loop-rest-preserved
loop-rest-preserved c =
    let rest = c.loop-rest.rest.now in
    let some : 0 < length rest = grind (arith, nat_tests, c.loop-rest-test.ensures) in
    let front = c.split_at.ensures.front ∙ ap (λ (n : ℕ). take n rest) c.token_len.ensures.value in
    let back = c.split_at.ensures.back ∙ ap (λ (n : ℕ). drop n rest) c.token_len.ensures.value in
    rw (c.in_ok-push.ensures.items, map-append, c.behind_white-rest-in-loop-rest.ensures)
    (cuts_one_more _ _ rest _ _ c.loop-rest.invariant some front back)

use Rattle.std.proofs.Common.{arith, ◌++◌, length-append}
use Rattle.std.proofs.lemmas.Result.{err_from_is_err_and}
use Rattle.sl_io.proofs.Pieces.{Gives-append, GivesSome-after}
use Rattle.sl_io.proofs.read.read_all.Goals as goal

pub returns-in_err-read_some-clause-too_long : goal.returns-in_err-read_some-clause-too_long
returns-in_err-read_some-clause-too_long g c =
    let passed_on = err_from_is_err_and c.from_residual.result c.from_residual.ensures.1 in
    let given = c.loop-held.invariant.gives in
    rw (passed_on.1, passed_on.2) (λ is_too_long.
    let last = c.in_err-read_some.ensures.too_long (cc) in
    (c.loop-held.held ++ last.0, omega (arith, length-append c.loop-held.held last.0, last.1), Gives-append _ _ _ _ _ given last.2))

pub returns-in_err-read_some-clause-err : goal.returns-in_err-read_some-clause-err
returns-in_err-read_some-clause-err g c =
    let passed_on = err_from_is_err_and c.from_residual.result c.from_residual.ensures.1 in
    rw passed_on.1 (GivesSome-after _ _ _ _ c.loop-held.invariant.gives c.in_err-read_some.ensures.err)

use Rattle.std.proofs.Common.{◌≤◌, subst}
use Rattle.qe_table.proofs.Standing.{all_callers}
use Rattle.qe_table.proofs.tests.gives_back.Goals as goal

pub abandon-requires : goal.abandon-requires
abandon-requires g c =
    let fits = c.fits.ensures.0 c.if-assert.false in (
      fits.least,
      subst (λ n. c.args.caller ≤ n) (all_callers _ c.args.table.now) fits.greatest,
    )

use Rattle.std.proofs.Common.{◌≤◌, subst}
use Rattle.qe_table.proofs.Standing.{all_callers}
use Rattle.qe_works.proofs.works.AbandonsWorkShared.turn.Goals as goal

pub abandon-requires : goal.abandon-requires
abandon-requires g c = (
  c.requires.least,
  subst (λ n. c.args.self.now.caller ≤ n) (all_callers _ c.args.value.now.table) c.requires.greatest,
)

use Rattle.std.proofs.Common.{subst}
use Rattle.qs_overload.specs.Best.{Best}
use Rattle.qs_overload.specs.declared.choice.Picked.TheVariants.{One, Tie}
use Rattle.qs_overload.proofs.Beating.{first_two, no_list, only_one}
use Rattle.qs_overload.proofs.choice.pick.Goals as goal

pub returns-in-None : goal.returns-in-None
returns-in-None c = absurd (no_list c.as_slice-costs.result.now c.a_best-best.result c.a_best-best.ensures c.in-None.ensures)

pub returns-in-None-next_unbeaten : goal.returns-in-None-next_unbeaten
returns-in-None-next_unbeaten c =
    subst (λ l. Best l (One c.in-Some.first)) c.as_slice-costs.ensures
    (only_one c.as_slice-costs.result.now c.in-Some.first c.in-Some.ensures c.in-None-next_unbeaten.ensures)

pub returns-in-Some-next_unbeaten : goal.returns-in-Some-next_unbeaten
returns-in-Some-next_unbeaten c =
    subst (λ l. Best l (Tie c.in-Some.first c.in-Some-next_unbeaten.second)) c.as_slice-costs.ensures
    (first_two c.as_slice-costs.result.now c.in-Some.first c.in-Some-next_unbeaten.second c.in-Some.ensures c.in-Some-next_unbeaten.ensures)

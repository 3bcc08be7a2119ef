use Rattle.std.proofs.Common.{refl}
use Rattle.std.proofs.lemmas.Option.{slice_get_read}
use Rattle.qs_overload.specs.Best.{Beats}
use Rattle.qs_overload.proofs.Beating.{none_more, told_false, unbeaten_of_all}
use Rattle.qs_overload.proofs.unbeaten.is_unbeaten.Goals as goal

pub loop-other-preserved : goal.loop-other-preserved
loop-other-preserved c =
    let costs = c.args.costs.now in
    let other = c.other-item.result in
    let list = c.index-costs-number-in-loop-other.result in
    none_more costs c.loop-other.other-index c.args.number other list
    (slice_get_read costs _ c.loop-other.other-index other refl c.loop-other-test.true c.other-item.is)
    (slice_get_read costs _ c.args.number list refl c.requires.within c.index-costs-number-in-loop-other.is)
    (told_false (Beats other list) c.beats-in-loop-other.result c.beats-in-loop-other.ensures c.if-beats-2.false) c.loop-other.invariant

pub returns : goal.returns
returns c =
    ((λ holds. unbeaten_of_all c.args.costs.now c.loop-other.other-index c.args.number c.requires.within c.loop-other-test.false c.loop-other.invariant), λ one. refl)

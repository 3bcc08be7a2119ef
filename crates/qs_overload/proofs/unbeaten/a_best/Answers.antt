use Rattle.std.proofs.Common.{◌<◌, ◌+◌, length, refl, subst, sym}
use Rattle.std.proofs.lemmas.Option.{slice_get_read}
use Rattle.qs_overload.specs.Best.{Beats}
use Rattle.qs_overload.proofs.Beating.{NoneBeats, none_beats_next, none_more, told_false, told_true, unbeaten_of_all}
use Rattle.qs_overload.proofs.unbeaten.a_best.Goals as goal
use Rattle.qs_overload.proofs.unbeaten.a_best.Goals.{then-beats, else-beats}

pub loop-number-preserved : goal.loop-number-preserved
loop-number-preserved c =
    let costs = c.args.costs.now in
    let this = c.index-costs-number.result in
    let list = c.index-costs-best.result in
    let here = slice_get_read costs _ c.loop-number.number this refl c.loop-number-test.true c.index-costs-number.is in
    let there = slice_get_read costs _ c.loop-number.best list refl c.loop-number.invariant.0 c.index-costs-best.is in
    elim c.if-beats.branch [
      | then-beats w ↦
          subst (λ n. (n < length costs) × NoneBeats costs (c.loop-number.number + 1) n) (sym w.best-is) (
            c.loop-number-test.true,
            none_beats_next costs c.requires.one_length c.loop-number.number c.loop-number.best this list here there
                (told_true (Beats this list) c.beats.result c.beats.ensures w.if-beats.true) c.loop-number.invariant.1,
          )
      | else-beats w ↦
          subst (λ n. (n < length costs) × NoneBeats costs (c.loop-number.number + 1) n) (sym w.best-is) (
            c.loop-number.invariant.0,
            none_more costs c.loop-number.number c.loop-number.best this list here there
                (told_false (Beats this list) c.beats.result c.beats.ensures w.if-beats.false) c.loop-number.invariant.1,
          )
    ]

pub returns : goal.returns
returns c =
    unbeaten_of_all c.args.costs.now c.loop-number.number c.loop-number.best c.loop-number.invariant.0 c.loop-number-test.false c.loop-number.invariant.1

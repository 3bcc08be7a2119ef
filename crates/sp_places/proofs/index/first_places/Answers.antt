use Rattle.sp_places.proofs.Keys.{IsIndex-more}
use Rattle.sp_places.proofs.index.first_places.Goals as goal

pub loop-place-preserved : goal.loop-place-preserved
loop-place-preserved c =
    IsIndex-more c.args.keys.now c.loop-place.place c.loop-place.places c.enter.new.places c.loop-place-test.true c.loop-place.invariant c.in_ok-enter.ensures

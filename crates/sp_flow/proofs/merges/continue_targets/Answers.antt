use Rattle.std.proofs.Common.{arith}
use Rattle.def_valid.specs.Blocks.{continue_target_in}
use Rattle.sp_flow.proofs.Named.{named-all, named-more}
use Rattle.sp_flow.proofs.merges.continue_targets.Goals as goal

pub loop-place-preserved : goal.loop-place-preserved
loop-place-preserved c =
    named-more continue_target_in c.args.places.now c.loop-place.place c.continue_target.result c.loop-place.blocks.items c.push.new.self.items
    (omega (arith, c.loop-place-test.true, c.size-place-end.ensures)) c.loop-place.invariant c.continue_target.ensures c.in_ok-push.ensures.items

pub returns : goal.returns
returns c =
    named-all continue_target_in c.args.places.now c.loop-place.place c.loop-place.blocks.items
    (omega (arith, c.loop-place-test.false, c.size-place-end.ensures)) c.loop-place.invariant

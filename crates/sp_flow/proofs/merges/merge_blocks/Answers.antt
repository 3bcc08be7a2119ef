use Rattle.std.proofs.Common.{arith}
use Rattle.def_valid.specs.Blocks.{merge_block_in}
use Rattle.sp_flow.proofs.Named.{named-all, named-more}
use Rattle.sp_flow.proofs.merges.merge_blocks.Goals as goal

pub loop-place-preserved : goal.loop-place-preserved
loop-place-preserved c =
    named-more merge_block_in c.args.places.now c.loop-place.place c.merge_block.result c.loop-place.blocks.items c.push.new.self.items
    (omega (arith, c.loop-place-test.true, c.size-place-end.ensures)) c.loop-place.invariant c.merge_block.ensures c.in_ok-push.ensures.items

pub returns : goal.returns
returns c =
    named-all merge_block_in c.args.places.now c.loop-place.place c.loop-place.blocks.items
    (omega (arith, c.loop-place-test.false, c.size-place-end.ensures)) c.loop-place.invariant

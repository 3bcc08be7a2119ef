use Rattle.sl_machine.proofs.Finished.{finish_index}
use Rattle.sl_machine.proofs.frames.Frame.index.Goals as goal

pub returns-in_ok-new-in-InIndex : goal.returns-in_ok-new-in-InIndex
returns-in_ok-new-in-InIndex c =
    λ source. finish_index source c.args.self c.in-InIndex.base c.in_ok-base-in-InIndex.base c.in-InIndex.opening c.in_ok-new-in-InIndex.field-0 c.args.last c.in-InIndex.is
    c.in_ok-base-in-InIndex.ensures c.in_ok-new-in-InIndex.ensures

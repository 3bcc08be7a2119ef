use Rattle.sp_words.proofs.Instructions.{HasRead-next}
use Rattle.sp_words.proofs.decoding.read_instructions.Goals as goal

pub loop-rest-preserved : goal.loop-rest-preserved
loop-rest-preserved c =
    HasRead-next c.loop-rest.invariant c.in_ok-inst.ensures.ok
    (c.in_ok-push.ensures {u = tt}).ok c.len-count.ensures

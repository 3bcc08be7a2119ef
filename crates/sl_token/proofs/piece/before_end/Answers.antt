use Rattle.sl_token.proofs.Comments.{no_end_further}
use Rattle.sl_token.proofs.piece.before_end.Goals as goal

pub loop-at-preserved : goal.loop-at-preserved
loop-at-preserved c = no_end_further c.args.text.now c.loop-at.at c.loop-at-test.true c.if-starts_with.ensures.value c.loop-at.invariant

use Rattle.std.proofs.Common.{arith}
use Rattle.sl_token.proofs.Comments.{end_short}
use Rattle.sl_token.proofs.piece.block_comment.Goals as goal

pub overflow_add-result-else-inside-body : goal.overflow_add-result-else-inside-body
overflow_add-result-else-inside-body c = omega (arith, end_short c.args.body.now)

use Rattle.sl_token.proofs.Fronts.{cut_block}
use Rattle.sl_token.proofs.piece.first_piece.Goals as goal

pub returns-then-starts_with-2 : goal.returns-then-starts_with-2
returns-then-starts_with-2 c = cut_block c.args.text.now _ c.if-is_white.ensures c.if-is_word_byte.ensures c.if-first-eq34.false c.if-starts_with.ensures.value c.if-starts_with-2.ensures.value c.block_comment.ensures

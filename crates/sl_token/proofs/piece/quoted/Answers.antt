use Rattle.std.proofs.Common.{arith}
use Rattle.std.proofs.lemmas.List.Sums.{prefix_len-le-length}
use Rattle.def_token.specs.Lexeme.{is_in_quotes}
use Rattle.sl_token.proofs.piece.quoted.Goals as goal

pub overflow_add-result-else-inside-body : goal.overflow_add-result-else-inside-body
overflow_add-result-else-inside-body c = omega (arith, prefix_len-le-length is_in_quotes c.args.body.now)

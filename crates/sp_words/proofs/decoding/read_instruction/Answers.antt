use Rattle.std.proofs.Common.{refl, arith, rules}
use Rattle.sp_words.proofs.Instructions.{Begins-first}
use Rattle.sp_words.proofs.decoding.read_instruction.Goals as goal

pub returns-clause-ok : goal.returns-clause-ok
returns-clause-ok c =
    Begins-first c.args.words.now c.in_ok-from_slice.field-0 _ _ refl (omega arith) (omega arith) refl (search rules) c.type_inv.words
    (c.in_ok-from_slice.ensures {u = tt})

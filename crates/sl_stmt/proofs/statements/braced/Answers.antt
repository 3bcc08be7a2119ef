use Rattle.std.proofs.Common.{suc, true, subst, ap, ◌∙◌, arith}
use Rattle.std.specs.Prelude.{nat_lt}
use Rattle.def_tree.specs.Limits.{Entry}
use Rattle.sl_cursor.specs.Following.{IsPassed}
use Rattle.sl_cursor.specs.Seen.{deep_by}
use Rattle.sl_cursor.proofs.Passing.{passed_noting}
use Rattle.sl_stmt.proofs.statements.braced.Goals as goal

pub returns : goal.returns
returns c =
    let source = c.args.input.now in
    let from = c.args.here.now in
    subst (λ (entry : Entry). IsPassed source (λ symbol. true) entry from c.args.opening c.noting.result)
    (ap deep_by c.is_too_deep.ensures ∙ ap (λ n. deep_by (nat_lt 64 (suc n))) (omega arith))
    (passed_noting source (λ symbol. true) c.is_too_deep.result from c.args.opening c.args.behind.now c.noting.result c.requires c.noting.ensures)

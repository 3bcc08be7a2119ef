use Rattle.std.proofs.Common.{suc, subst, ap, ◌∙◌, arith}
use Rattle.std.specs.Prelude.{nat_lt}
use Rattle.def_tree.specs.Limits.{Entry}
use Rattle.sl_cursor.specs.Following.{IsPassed}
use Rattle.sl_cursor.specs.Seen.{deep_by}
use Rattle.sl_cursor.specs.Signs.{is_text}
use Rattle.sl_cursor.proofs.Passing.{passed_noting}
use Rattle.sl_cursor.proofs.source.Source.opening_if.Goals as goal

pub returns : goal.returns
returns c =
    let source = c.args.self.now in
    let from = c.args.here.now in
    subst (λ (entry : Entry). IsPassed source (is_text c.args.mark.now) entry from c.in-Some.opening c.noting.result)
    (ap deep_by c.is_too_deep-deep.ensures ∙ ap (λ n. deep_by (nat_lt 64 (suc n))) (omega arith))
    (passed_noting source (is_text c.args.mark.now) c.is_too_deep-deep.result from c.in-Some.opening c.in-Some.behind c.noting.result c.in-Some.ensures c.noting.ensures)

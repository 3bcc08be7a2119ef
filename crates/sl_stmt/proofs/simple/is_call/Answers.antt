use Rattle.std.proofs.Common.{sym, ap, ◌∙◌}
use Rattle.def_tree.specs.Statements.{is_call}
use Rattle.sl_tree.specs.View as view
use Rattle.sl_tree.proofs.Views.{expr_in-Call}
use Rattle.sl_stmt.proofs.Simples.{no_call}
use Rattle.sl_stmt.proofs.simple.is_call.Goals as goal

pub returns-in-Call : goal.returns-in-Call
returns-in-Call c =
    λ source. sym (ap (λ expr. is_call (view.expr_in source expr)) c.in-Call.is ∙ ap is_call (expr_in-Call source c.in-Call.field-0 c.in-Call.field-1 c.in-Call.field-2))

pub returns-in_default : goal.returns-in_default
returns-in_default c = λ source. sym (no_call source c.args.expr.now c.in_default.not-Call)

use Rattle.std.proofs.Common.{◌∙◌, ap, sym}
use Rattle.def_built.specs.Built.{is_small_expr}
use Rattle.sl_token.specs.View.{token_in}
use Rattle.sl_tree.specs.View.{expr_in}
use Rattle.sl_tree.proofs.Views.{expr_in-Name}
use Rattle.rl_built.proofs.Small.{small_name}
use Rattle.rl_built.proofs.built.+is_small_expr.Goals as goal

pub returns-in-Name : goal.returns-in-Name
returns-in-Name t c =
    small_name c.args.source.now (token_in c.args.source.now c.in-Name.field-0) c.in-Name.args c.is_empty.result c.is_empty.ensures
    ∙ ap is_small_expr (sym (ap (expr_in c.args.source.now) c.in-Name.is ∙ expr_in-Name c.args.source.now c.in-Name.field-0 c.in-Name.args))

use Rattle.std.proofs.Common.{sym}
use Rattle.std.specs.Prelude.{Option}
use Rattle.std.specs.Option.{option_map}
use Rattle.def_tree.specs.StmtTree as tree
use Rattle.def_reading.specs.StmtReading.{maybe_expr_in}
use Rattle.sl_token.specs.View.{token_in}
use Rattle.sl_tree.specs.View as view
use Rattle.sl_tree.specs.declared.expressions.ExprTree.{ExprTree}
use Rattle.sl_tree.specs.declared.statements.StmtTree.TheVariants as stmt
use Rattle.sl_tree.proofs.Views.{stmt_in-Return}
use Rattle.sl_cursor.specs.Nestings.{nesting_in}
use Rattle.sl_cursor.proofs.Following.{read_as}
use Rattle.sl_stmt.proofs.statements.returned.Goals as goal

pub returns : goal.returns
returns c =
    let bytes = c.args.input.now.bytes.now in
    read_as c.args.input.now (λ (value : Option ExprTree). option_map (view.expr_in bytes) value) (view.stmt_in bytes) (tree.Return (token_in bytes c.args.word)) (maybe_expr_in (nesting_in c.args.around.now))
    c.args.here.now c.in_ok-value.value (stmt.Return c.args.word c.in_ok-value.value) c.in_ok-value.end c.in_ok-value.ensures (λ h k. sym (stmt_in-Return bytes c.args.word c.in_ok-value.value))

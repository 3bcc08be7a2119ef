use Rattle.std.proofs.Common.{false, subst}
use Rattle.def_tree.specs.Limits.{Nesting, in_bracket, opens}
use Rattle.def_tree.specs.Symbol.{is_sign}
use Rattle.def_reading.specs.Try.{refused, up_to, expr_in}
use Rattle.sl_tree.specs.View as view
use Rattle.sl_cursor.specs.Following.{Follows}
use Rattle.sl_cursor.specs.Nestings.{nesting_in}
use Rattle.sl_cursor.proofs.Following.{follows_yes}
use Rattle.sl_stmt.proofs.heads.condition.Goals as goal

pub returns : goal.returns
returns c =
    let source = c.args.input.now in
    let inside = in_bracket (nesting_in c.args.around.now) in
    let seen = view.expr_in source.bytes.now in
    follows_yes source seen (is_sign "(") (opens inside.brackets) (λ opening reach place. up_to (is_sign ")") (expr_in false inside reach place)) refused
    c.args.here.now c.in_ok-inside.field-0-0 c.in_ok-inside.inside c.value_up_to.result c.in_ok-inside.ensures
    (subst (λ (inside : Nesting). Follows source seen (λ reach place. up_to (is_sign ")") (expr_in false inside reach place)) c.in_ok-inside.inside c.value_up_to.result) c.in_bracket.ensures c.value_up_to.ensures)

use Rattle.std.proofs.Common.{ap, sym, ◌∙◌}
use Rattle.def_tree.specs.ExprTree as tree
use Rattle.sl_token.specs.View.{token_in}
use Rattle.sl_tree.proofs.Views.{expr_in-Member}
use Rattle.sl_tree.specs.View.{expr_in}
use Rattle.sl_tree.specs.declared.expressions.ExprTree.TheVariants as expr
use Rattle.sl_machine.specs.Framed.{frames_in}
use Rattle.def_reading.specs.Machine.{member_by}
use Rattle.sl_cursor.specs.Seen.{place_in}
use Rattle.sl_machine.proofs.Standing.{stands_as}
use Rattle.sl_machine.proofs.machine.Around.member.Goals as goal

pub returns-in_ok-new : goal.returns-in_ok-new
returns-in_ok-new c =
    λ frames. let source = c.args.self.now.source.bytes.now in
    stands_as source frames (expr.Member c.in_ok-new.field-0 c.args.token) c.args.place.now c.stands.result (tree.Member (expr_in source c.args.base) (token_in source c.args.token)) _
    c.stands.ensures (expr_in-Member source c.in_ok-new.field-0 c.args.token ∙ ap (λ e. tree.Member (expr_in source e) (token_in source c.args.token)) c.in_ok-new.ensures)
    (sym (ap (λ b. member_by b (expr_in source c.args.base) (token_in source c.args.token) (frames_in source frames) (place_in source c.args.place.now))
    (sym c.is_name.ensures ∙ c.if-is_name.true)))

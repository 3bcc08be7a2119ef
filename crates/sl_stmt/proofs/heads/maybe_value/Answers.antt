use Rattle.std.proofs.Common.{false, refl}
use Rattle.std.specs.Prelude.{Some, None, Ok, Err}
use Rattle.std.specs.Option.{option_map}
use Rattle.def_tree.specs.Limits.{plain}
use Rattle.def_tree.specs.Symbol.{is_sign}
use Rattle.def_reading.specs.StmtReading.{maybe_expr_in}
use Rattle.def_reading.specs.Try.{Reads, try_as, up_to, expr_in}
use Rattle.sl_tree.specs.View as view
use Rattle.sl_tree.specs.declared.expressions.ExprTree.{ExprTree as Read}
use Rattle.std.specs.Prelude.{Option}
use Rattle.sl_cursor.specs.Nestings.{nesting_in}
use Rattle.sl_cursor.proofs.Following.{follows_err, follows_yes, follows_no, follows_end, stops_as, read_as}
use Rattle.sl_stmt.proofs.heads.maybe_value.Goals as goal

pub returns-in-Some : goal.returns-in-Some
returns-in-Some c =
    let source = c.args.input.now in
    let around = nesting_in c.args.around.now in
    let seen = λ (value : Option Read). option_map (view.expr_in source.bytes.now) value in
    follows_yes source seen (is_sign ";") plain (λ semicolon reach place. Reads None place reach) (λ reach place. try_as Some (up_to (is_sign ";") (expr_in false around reach place)))
    c.args.here.now c.in-Some.field-0-0 c.in-Some.behind (Ok (None, c.in-Some.behind)) c.in-Some.ensures
    (follows_end source seen None c.in-Some.behind None c.in-Some.ensures.behind (λ h. refl))

pub returns-in_err-value : goal.returns-in_err-value
returns-in_err-value c =
    let source = c.args.input.now in
    let around = nesting_in c.args.around.now in
    let seen = λ (value : Option Read). option_map (view.expr_in source.bytes.now) value in
    let stop = c.in_err-value.field-0.0 in
    follows_err source seen (maybe_expr_in around) c.args.here.now c.from_residual.result stop c.from_residual.ensures.1
    (follows_no source seen (is_sign ";") plain (λ semicolon reach place. Reads None place reach) (λ reach place. try_as Some (up_to (is_sign ";") (expr_in false around reach place)))
    c.args.here.now (Err stop) c.in_default.ensures
    (stops_as source (view.expr_in source.bytes.now) seen Some (λ reach place. up_to (is_sign ";") (expr_in false around reach place)) c.args.here.now stop c.in_err-value.ensures))

pub returns : goal.returns
returns c =
    let source = c.args.input.now in
    let around = nesting_in c.args.around.now in
    let seen = λ (value : Option Read). option_map (view.expr_in source.bytes.now) value in
    follows_no source seen (is_sign ";") plain (λ semicolon reach place. Reads None place reach) (λ reach place. try_as Some (up_to (is_sign ";") (expr_in false around reach place)))
    c.args.here.now (Ok (Some c.in_ok-value.value, c.in_ok-value.end)) c.in_default.ensures
    (read_as source (view.expr_in source.bytes.now) seen Some (λ reach place. up_to (is_sign ";") (expr_in false around reach place)) c.args.here.now c.in_ok-value.value (Some c.in_ok-value.value) c.in_ok-value.end
    c.in_ok-value.ensures (λ h k. refl))

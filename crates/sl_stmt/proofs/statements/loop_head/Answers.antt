use Rattle.std.proofs.Common.{◌≡◌, refl, sym, ap, subst, ◌∙◌}
use Rattle.std.specs.Prelude.{Option, Ok, Err}
use Rattle.std.specs.Option.{option_map}
use Rattle.def_tree.specs.ExprTree as exprs
use Rattle.def_tree.specs.Limits.{Nesting, in_bracket, opens}
use Rattle.def_tree.specs.StmtTree as stmts
use Rattle.def_tree.specs.Symbol.{is_sign}
use Rattle.def_reading.specs.StmtReading.{start_in, maybe_expr_in, maybe_simple_in}
use Rattle.def_reading.specs.Try.{Reader, try_then, try_as, refused}
use Rattle.sl_tree.specs.View as view
use Rattle.sl_tree.specs.declared.expressions.ExprTree.{ExprTree}
use Rattle.sl_tree.specs.declared.statements.SimpleTree.{SimpleTree}
use Rattle.sl_tree.specs.declared.statements.StartTree.{StartTree}
use Rattle.sl_cursor.specs.Following.{Follows, IsRead}
use Rattle.sl_cursor.specs.Nestings.{nesting_in}
use Rattle.sl_stmt.specs.Settling.{HeadTree, head_in, headed, head_read}
use Rattle.sl_stmt.specs.declared.statements.Head.{Head}
use Rattle.sl_cursor.proofs.Following.{follows_err, follows_yes, follows_then, stops_in, read_as}
use Rattle.sl_stmt.proofs.statements.loop_head.Goals as goal

-- what stands behind the start, and behind the condition
abbrev behind_condition : Nesting → stmts.StartTree → Option exprs.ExprTree → Reader HeadTree
behind_condition bracket start condition reach place = try_as (headed start condition) (maybe_simple_in bracket reach place)

abbrev behind_start : Nesting → stmts.StartTree → Reader HeadTree
behind_start bracket start reach place = try_then (behind_condition bracket start) (maybe_expr_in bracket reach place)

made : StartTree → Option ExprTree → Option SimpleTree → Head
made start condition step = record { start = start; condition = condition; step = step }

pub returns-in_err-start : goal.returns-in_err-start
returns-in_err-start c =
    let source = c.args.input.now in
    let bytes = source.bytes.now in
    let around = nesting_in c.args.around.now in
    let bracket = in_bracket around in
    let stop = c.in_err-start.field-0.0 in
    let inside = c.in_ok-inside.inside in
    follows_err source (head_in bytes) (head_read around) c.args.here.now c.from_residual-in_err-start.result stop c.from_residual-in_err-start.ensures.1
    (follows_yes source (head_in bytes) (is_sign "(") (opens bracket.brackets) (λ opening reach place. try_then (behind_start bracket) (start_in bracket reach place)) refused
    c.args.here.now c.in_ok-inside.field-0-0 inside (Err stop) c.in_ok-inside.ensures
    (stops_in source (view.start_in bytes) (head_in bytes) (try_then (behind_start bracket)) (start_in bracket) inside stop (λ reach. refl)
    (subst (λ (bracket : Nesting). Follows source (view.start_in bytes) (start_in bracket) inside (Err stop)) c.in_bracket-bracket.ensures c.in_err-start.ensures)))

pub returns : goal.returns
unfolding made
returns c =
    let source = c.args.input.now in
    let bytes = source.bytes.now in
    let around = nesting_in c.args.around.now in
    let bracket = in_bracket around in
    let inside = c.in_ok-inside.inside in
    let start = c.in_ok-start.start in
    let begun = c.in_ok-start.begun in
    let condition = c.in_ok-condition.condition in
    let tested = c.in_ok-condition.tested in
    let step = c.in_ok-step.step in
    let end = c.in_ok-step.behind in
    let read : Head = made start condition step in
    let same : c.in_ok-new.field-0 ≡ read =
    c.in_ok-new.ensures ∙ ap (λ start. made start c.into_inner-2.result step) (c.into_inner.ensures ∙ c.in_ok-start-2.ensures)
    ∙ ap (λ condition. made start condition step) (c.into_inner-2.ensures ∙ c.in_ok-condition-2.ensures) in
    let started = subst (λ (bracket : Nesting). IsRead source (view.start_in bytes) (start_in bracket) inside start begun) c.in_bracket-bracket.ensures c.in_ok-start.ensures in
    let conditioned = subst (λ (bracket : Nesting). IsRead source (λ (value : Option ExprTree). option_map (view.expr_in bytes) value) (maybe_expr_in bracket) begun condition tested)
    c.in_bracket-bracket.ensures c.in_ok-condition.ensures in
    let stepped = subst (λ (bracket : Nesting). IsRead source (λ (simple : Option SimpleTree). option_map (view.simple_in bytes) simple) (maybe_simple_in bracket) tested step end)
    c.in_bracket-bracket.ensures c.in_ok-step.ensures in
    subst (λ (read : Head). IsRead source (head_in bytes) (head_read around) c.args.here.now read end) (sym same)
    (follows_yes source (head_in bytes) (is_sign "(") (opens bracket.brackets) (λ opening reach place. try_then (behind_start bracket) (start_in bracket reach place)) refused
    c.args.here.now c.in_ok-inside.field-0-0 inside (Ok (read, end)) c.in_ok-inside.ensures
    (follows_then source (view.start_in bytes) (head_in bytes) (behind_start bracket) (start_in bracket) inside start begun (Ok (read, end)) started
    (λ one is. follows_then source (λ (value : Option ExprTree). option_map (view.expr_in bytes) value) (head_in bytes) (behind_condition bracket one) (maybe_expr_in bracket) begun condition tested (Ok (read, end)) conditioned
    (λ two are. read_as source (λ (simple : Option SimpleTree). option_map (view.simple_in bytes) simple) (head_in bytes) (headed one two) (maybe_simple_in bracket) tested step read end stepped
    (λ h k. ap (λ one. headed one two (option_map (view.simple_in bytes) step)) (is (conditioned.tried.rises k))
    ∙ ap (λ two. headed (view.start_in bytes start) two (option_map (view.simple_in bytes) step)) (are k))))))

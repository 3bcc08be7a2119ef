use Rattle.std.proofs.Common.{◌≡◌, false, ap, sym, ◌∙◌}
use Rattle.std.specs.Prelude.{Some, Ok, Err}
use Rattle.std.specs.Option.{option_map}
use Rattle.def_reading.specs.Machine.{written}
use Rattle.def_reading.specs.StmtReading.{assigned_in, assignment_at, assignments}
use Rattle.def_reading.specs.Try.{try_as, expr_in}
use Rattle.def_tree.specs.Operator.{assignment_text}
use Rattle.def_tree.specs.StmtTree as tree
use Rattle.sl_token.specs.View.{token_in, tokens_in}
use Rattle.sl_tree.specs.View as view
use Rattle.sl_tree.specs.declared.statements.SimpleTree.TheVariants as simple
use Rattle.sl_cursor.specs.Nestings.{nesting_in}
use Rattle.sl_cursor.proofs.Following.{follows_by, follows_err, stops_as, read_as}
use Rattle.sl_stmt.proofs.Simples.{assigned_is}
use Rattle.sl_stmt.proofs.simple.assigned.Goals as goal

pub returns-in_err-value-in-Some-assignment_of : goal.returns-in_err-value-in-Some-assignment_of
returns-in_err-value-in-Some-assignment_of c =
    λ first o.
    let source = c.args.input.now in
    let bytes = source.bytes.now in
    let around = nesting_in c.args.around.now in
    let from = c.args.here.now in
    let to = c.behind_assignment-behind.result in
    let stop = c.in_err-value-in-Some-assignment_of.field-0.0 in
    let a = view.assignment_of c.in-Some-assignment_of.assignment in
    let written : assignment_at (tokens_in bytes from.place.rest.now) ≡ Some a =
    ap (written assignment_text assignments) (sym c.sign_at.ensures) ∙ sym c.assignment_of.ensures ∙ ap (option_map view.assignment_of) c.in-Some-assignment_of.is in
    follows_err source (view.simple_in bytes) (assigned_in around first) from c.from_residual.result stop c.from_residual.ensures.1
    (follows_by source (view.simple_in bytes) (assigned_in around first) (λ reach place. try_as (tree.Assign a (token_in bytes c.in-Some.token.now) first) (expr_in false around reach place)) from to (Err stop)
    (assigned_is source around first from c.in-Some.token.now c.in-Some.field-0-1.now c.in-Some.ensures.cases.0 a written to c.behind_assignment-behind.ensures) c.behind_assignment-behind.ensures.on
    (λ h. sym c.behind_assignment-behind.ensures.limit ∙ h)
    (stops_as source (view.expr_in bytes) (view.simple_in bytes) (tree.Assign a (token_in bytes c.in-Some.token.now) first) (expr_in false around) to stop c.in_err-value-in-Some-assignment_of.ensures))

pub returns-in_ok-value-in-Some-assignment_of : goal.returns-in_ok-value-in-Some-assignment_of
returns-in_ok-value-in-Some-assignment_of c =
    λ first o.
    let source = c.args.input.now in
    let bytes = source.bytes.now in
    let around = nesting_in c.args.around.now in
    let from = c.args.here.now in
    let to = c.behind_assignment-behind.result in
    let value = c.in_ok-value-in-Some-assignment_of.value in
    let end = c.in_ok-value-in-Some-assignment_of.end in
    let token = token_in bytes c.in-Some.token.now in
    let read = simple.Assign c.in-Some-assignment_of.assignment c.in-Some.token.now c.args.expr value in
    let a = view.assignment_of c.in-Some-assignment_of.assignment in
    let written : assignment_at (tokens_in bytes from.place.rest.now) ≡ Some a =
    ap (written assignment_text assignments) (sym c.sign_at.ensures) ∙ sym c.assignment_of.ensures ∙ ap (option_map view.assignment_of) c.in-Some-assignment_of.is in
    follows_by source (view.simple_in bytes) (assigned_in around first) (λ reach place. try_as (tree.Assign a token first) (expr_in false around reach place)) from to (Ok (read, end))
    (assigned_is source around first from c.in-Some.token.now c.in-Some.field-0-1.now c.in-Some.ensures.cases.0 a written to c.behind_assignment-behind.ensures) c.behind_assignment-behind.ensures.on
    (λ h. sym c.behind_assignment-behind.ensures.limit ∙ h)
    (read_as source (view.expr_in bytes) (view.simple_in bytes) (tree.Assign a token first) (expr_in false around) to value read end c.in_ok-value-in-Some-assignment_of.ensures
    (λ h k. ap (λ first. tree.Assign a token first (view.expr_in bytes value)) (o.same (sym c.behind_assignment-behind.ensures.limit ∙ k))))

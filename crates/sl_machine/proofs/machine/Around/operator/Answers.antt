use Rattle.std.proofs.Common.{ap, ◌∙◌}
use Rattle.std.proofs.lemmas.Result.{IfOk-weaker}
use Rattle.sl_token.specs.View.{token_in}
use Rattle.sl_tree.specs.View.{expr_in, operator_of}
use Rattle.std.specs.Option.{option_map}
use Rattle.std.specs.Prelude.{replicate}
use Rattle.def_tree.specs.Limits.{operator_tokens, plain}
use Rattle.def_tree.specs.Operator.{level}
use Rattle.def_reading.specs.Machine.{assign_by, bound, may_assign, whole}
use Rattle.def_reading.specs.Cursor.{passed}
use Rattle.sl_machine.specs.Long.{long_in}
use Rattle.sl_cursor.specs.Nestings.{nesting_in}
use Rattle.sl_cursor.specs.Seen.{place_in, reach_in}
use Rattle.sl_machine.specs.Framed.{frames_in, held_in}
use Rattle.sl_machine.specs.Kept.{kept_held}
use Rattle.sl_machine.specs.Steps.{step_in}
use Rattle.sl_machine.proofs.Operated.{operator_alike}
use Rattle.sl_machine.proofs.machine.Around.operator.Goals as goal

pub returns : goal.returns
returns c =
    let source = c.args.self.now.source.bytes.now in
    let operator = operator_of c.args.operator in
    let around = nesting_in c.args.self.now.open in
    let long = long_in c.args.self.now in
    let value = expr_in source c.args.value in
    let frames = frames_in source c.args.frames.now in
    let behind = passed (replicate (operator_tokens operator) plain) (place_in source c.args.place.now) in
    let other = assign_by around long (may_assign operator (whole value frames)) c.args.place.now.at behind in
    let at_behind = c.behind_operator-behind.ensures source in
    IfOk-weaker c.operated.result _ _
    (λ step h. operator_alike c.args.keep operator other (option_map (reach_in source) c.assigned-other.result) (token_in source c.args.token) behind (place_in source c.behind_operator-behind.result)
    (held_in source c.in_ok-left.left c.bound.new.frames) (bound (level operator) value frames) (step_in source c.operated.new.frames step) h
    (c.assigned-other.ensures value ∙ ap (assign_by around long (may_assign operator (whole value frames)) c.args.place.now.at) at_behind) at_behind
    (c.in_ok-left.ensures source ∙ ap (λ least. kept_held c.args.keep (bound least value frames)) c.level.ensures))
    c.operated.ensures

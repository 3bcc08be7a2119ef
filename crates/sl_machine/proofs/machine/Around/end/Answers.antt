use Rattle.std.proofs.Common.{sym, ap, ◌∙◌}
use Rattle.std.specs.Option.{option_map}
use Rattle.def_tree.specs.Limits.{plain}
use Rattle.def_reading.specs.Cursor.{advance}
use Rattle.sl_token.specs.View.{tokens_in}
use Rattle.sl_tree.specs.View.{expr_in}
use Rattle.sl_machine.specs.Long.{long_in}
use Rattle.sl_cursor.specs.Nestings.{nesting_in}
use Rattle.sl_cursor.specs.Seen.{place_in, reach_in}
use Rattle.sl_machine.proofs.Running.{stray_end}
use Rattle.sl_machine.proofs.machine.Around.end.Goals as goal

pub returns-then-is_assignment : goal.returns-then-is_assignment
returns-then-is_assignment c =
    let source = c.args.self.now.source.bytes.now in
    stray_end (nesting_in c.args.self.now.open) c.args.assigns (long_in c.args.self.now) (option_map (reach_in source) c.args.reach) (option_map (reach_in source) c.refused.result)
    (expr_in source c.args.expr) (place_in source c.args.place.now) (place_in source c.advance-behind.result) (tokens_in source c.args.place.now.rest.now)
    c.if-not-assigns.true (sym c.is_assignment.ensures ∙ c.if-is_assignment.true)
    (c.advance-behind.ensures.place source ∙ ap (advance plain) (c.advance.ensures.place source)) (c.refused.ensures c.args.assigns)

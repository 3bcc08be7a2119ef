use Rattle.std.proofs.Common.{sym, ap, ◌∙◌}
use Rattle.def_reading.specs.Machine.{assign_by}
use Rattle.sl_machine.specs.Long.{long_in}
use Rattle.sl_cursor.specs.Nestings.{nesting_in}
use Rattle.sl_cursor.specs.Seen.{place_in}
use Rattle.sl_machine.proofs.machine.Around.assigned.Goals as goal

pub returns-then-may_assign : goal.returns-then-may_assign
returns-then-may_assign c =
    λ value. let source = c.args.self.now.source.bytes.now in
    c.reach_at.ensures source
    ∙ ap (λ b. assign_by (nesting_in c.args.self.now.open) (long_in c.args.self.now) b c.args.place.now.at (place_in source c.args.behind.now))
    (sym c.if-may_assign.true ∙ c.may_assign.ensures source value)

pub returns-else-may_assign : goal.returns-else-may_assign
returns-else-may_assign c =
    λ value. let source = c.args.self.now.source.bytes.now in
    ap (λ b. assign_by (nesting_in c.args.self.now.open) (long_in c.args.self.now) b c.args.place.now.at (place_in source c.args.behind.now))
    (sym c.if-may_assign.false ∙ c.may_assign.ensures source value)

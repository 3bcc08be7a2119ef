use Rattle.std.proofs.Common.{ap, ◌∙◌}
use Rattle.def_reading.specs.Cursor.{advance}
use Rattle.sl_cursor.specs.Seen.{place_in}
use Rattle.sl_machine.proofs.Counted.{bracket_entry}
use Rattle.sl_cursor.specs.Nestings.{nesting_in}
use Rattle.sl_machine.proofs.machine.Around.bracket.Goals as goal

pub returns : goal.returns
returns c =
    λ source. c.open.ensures source ∙ ap (λ entry. advance entry (place_in source c.args.place.now))
    (bracket_entry source (nesting_in c.args.self.now.open) c.brackets.result c.args.frames.now c.is_too_deep.result c.brackets.ensures c.is_too_deep.ensures)

use Rattle.std.proofs.Common.{length}
use Rattle.sl_machine.specs.Long.{long_in}
use Rattle.sl_cursor.specs.Nestings.{nesting_in}
use Rattle.sl_machine.proofs.Running.{HasRun}
use Rattle.sl_machine.proofs.machine.Around.run.Given as goal

-- the machine has come as far as the one on lists
abbrev pub invariant-loop-frames : goal.invariant-loop-frames
invariant-loop-frames l = HasRun l.self.source (nesting_in l.self.open) l.assigns (long_in l.self) l.here l.reach l.frames l.mode l.place

abbrev pub decreases-loop-frames : goal.decreases-loop-frames
decreases-loop-frames l = length l.place.rest.now

use Rattle.std.proofs.Common.{◌≡◌, ◌+◌, ◌-◌, ◌≤◌, length}
use Rattle.sl_io.specs.Source.{Gives}
use Rattle.sl_io.proofs.read.read_all.Given as goal

abbrev pub invariant-loop-held : goal.invariant-loop-held
invariant-loop-held g l = record {
  within : length l.held ≤ l.max;
  gives : Gives (g.I.Source.left l.initial.src) (g.I.Source.left l.src) l.held;
  never_falls : g.I.Source.faults l.initial.src ≤ g.I.Source.faults l.src;
  buffer : length l.buffer ≡ 4096;
}

abbrev pub decreases-loop-held : goal.decreases-loop-held
decreases-loop-held g l = l.max + 1 - length l.held

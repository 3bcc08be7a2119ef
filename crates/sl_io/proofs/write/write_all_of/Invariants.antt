use Rattle.std.proofs.Common.{length, ◌-◌, ◌≤◌, take}
use Rattle.sl_io.specs.Sink.{Gains}
use Rattle.sl_io.proofs.write.write_all_of.Given as goal

abbrev pub invariant-loop-written : goal.invariant-loop-written
invariant-loop-written g l = record {
  within : l.written ≤ length l.bytes;
  gains : Gains (g.O.Sink.written l.initial.sink) (g.O.Sink.written l.sink) (take l.written l.bytes);
  never_falls : g.O.Sink.faults l.initial.sink ≤ g.O.Sink.faults l.sink;
}

abbrev pub decreases-loop-written : goal.decreases-loop-written
decreases-loop-written g l = length l.bytes - l.written

use Rattle.std.proofs.Common.{arith, length-drop}
use Rattle.std.proofs.lemmas.List.{take_rest}
use Rattle.sl_io.proofs.Pieces.{Gains-take}
use Rattle.sl_io.proofs.write.write_all_of.Goals as goal

pub loop-written-preserved : goal.loop-written-preserved
loop-written-preserved g c =
    let bytes = c.args.bytes.now in
    let written = c.loop-written.written in
    let taken = rw (take_rest bytes written) at c.in-Bytes.ensures.takes in
    record {
      within = omega (arith, taken.1, length-drop written bytes);
      gains = Gains-take _ _ _ bytes written c.in-Bytes.count c.loop-written.invariant.gains taken.2;
      never_falls = omega (arith, c.loop-written.invariant.never_falls, c.in-Bytes.ensures.never_falls);
    }

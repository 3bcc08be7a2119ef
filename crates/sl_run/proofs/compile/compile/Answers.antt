use Rattle.std.proofs.Common.{inl, sym, ap, ◌∙◌}
use Rattle.std.proofs.lemmas.Slice.Eq.{bytes_eq-Decides}
use Rattle.sl_run.specs.Reading.{write_of}
use Rattle.def_reply.specs.Text.{diagnostic_line}
use Rattle.sl_run.proofs.compile.compile.Goals as goal

pub returns-in_ok-code_of-in-Some : goal.returns-in_ok-code_of-in-Some
returns-in_ok-code_of-in-Some c = record {
  source = write_of c.in-Some.write;
  read = rw c.in-Some.is at c.in_ok-write.ensures.found;
  entry_point = (bytes_eq-Decides c.in-Some.write.entry.now c.args.entry.now).0 (sym c.eq.ensures ∙ c.if-eq.true);
  spelled = c.in_ok-code_of-in-Some.ensures;
}

pub returns-in_ok-diagnostic_line-in-Some-2 : goal.returns-in_ok-diagnostic_line-in-Some-2
returns-in_ok-diagnostic_line-in-Some-2 c = inl (record {
  source = write_of c.in-Some.write;
  read = rw c.in-Some.is at c.in_ok-write.ensures.found;
  other = sym c.eq.ensures ∙ c.if-eq.false;
  told = c.in_ok-diagnostic_line-in-Some-2.ensures ∙ ap diagnostic_line c.in_ok-diagnostic-in-Some-2.ensures;
})

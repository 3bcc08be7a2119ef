use Rattle.std.proofs.Common.{List, ℕ, subst}
use Rattle.sl_run.specs.Compile.{Compiles}
use Rattle.sl_run.proofs.Endings.{is_read}
use Rattle.sl_run.proofs.one.compiled.Goals as goal

pub returns-clause-ok : goal.returns-clause-ok
returns-clause-ok g c = record {
  text = c.in_ok-text.text;
  read = is_read _ _ _ _ c.in_ok-text.text c.in_ok-text.ensures.ok.0 c.in_ok-text.ensures.ok.1 c.in_ok-text.ensures.to_the_end;
  compiled = subst (λ (text : List ℕ). Compiles c.args.entry.now text c.in_ok-compile.field-0) c.as_slice.ensures c.in_ok-compile.ensures;
}

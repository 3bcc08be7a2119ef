use Rattle.std.proofs.Common.{refl}
use Rattle.sl_run.proofs.Endings.{ends_code, ends_diagnostics}
use Rattle.sl_run.proofs.one.one.Goals as goal

pub returns-in-Ok-Code-clause-ends : goal.returns-in-Ok-Code-clause-ends
returns-in-Ok-Code-clause-ends g c =
    ends_code c.write_code.result c.args.entry.now c.in-Ok-Code.bytes _ _ _ (rw c.in-Ok-Code.field-0-is at c.in-Ok-Code.ensures.ok) c.write_code.ensures.ends

pub returns-in-Ok-Diagnostics-clause-ends : goal.returns-in-Ok-Diagnostics-clause-ends
returns-in-Ok-Diagnostics-clause-ends g c =
    ends_diagnostics c.write_diagnostics.result c.args.entry.now c.in-Ok-Diagnostics.lines _ _ _ (rw c.in-Ok-Diagnostics.field-0-is at c.in-Ok-Diagnostics.ensures.ok) refl c.write_diagnostics.ensures.ends

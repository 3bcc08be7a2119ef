use Rattle.std.proofs.Common.{sym, refl}
use Rattle.sl_roots.proofs.Names.{names_any}
use Rattle.sl_roots.proofs.source_set.SourceSet.has.Goals as goal

pub returns-then-has_module : goal.returns-then-has_module
returns-then-has_module c =
    rw names_any (rw (sym c.has_module.ensures) (rw c.if-has_module.true refl))

pub returns-else-has_module : goal.returns-else-has_module
returns-else-has_module c =
    rw names_any (rw (sym c.has_module.ensures) (rw c.if-has_module.false c.has_absent.ensures))

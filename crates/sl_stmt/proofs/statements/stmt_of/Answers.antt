use Rattle.std.proofs.Common.{sym, ap, ◌∙◌}
use Rattle.def_tree.specs.StmtTree as tree
use Rattle.sl_tree.proofs.Views.{stmt_in-Local, stmt_in-Simple}
use Rattle.sl_stmt.specs.Eithers.{either_in, made_of}
use Rattle.sl_stmt.proofs.statements.stmt_of.Goals as goal

pub returns-in-Local : goal.returns-in-Local
returns-in-Local c = λ source. stmt_in-Local source c.in-Local.local ∙ sym (ap (λ either. made_of tree.Local tree.Simple (either_in source either)) c.in-Local.is)

pub returns-in-Simple : goal.returns-in-Simple
returns-in-Simple c = λ source. stmt_in-Simple source c.in-Simple.simple ∙ sym (ap (λ either. made_of tree.Local tree.Simple (either_in source either)) c.in-Simple.is)

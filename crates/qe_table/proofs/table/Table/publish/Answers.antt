use Rattle.def_core.specs.declared.event.Event.TheVariants.{Publish}
use Rattle.qe_table.proofs.Standing.{enters}
use Rattle.qe_table.proofs.table.Table.publish.Goals as goal

pub invariant_of-self : goal.invariant_of-self
invariant_of-self g c =
    enters g.R.Key.Ord.cmp c.self.inside.core c.apply_other.new.self c.self.inside.history c.push.new.self
    (Publish c.args.caller c.args.answer) c.of-entry.result.value c.self.invariant c.apply_other.ensures.state c.of-entry.ensures c.push.ensures

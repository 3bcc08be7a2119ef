use Rattle.def_core.specs.declared.event.Event.TheVariants.{Ask}
use Rattle.qe_table.proofs.Standing.{enters}
use Rattle.qe_table.proofs.table.Table.ask.Goals as goal

pub invariant_of-self-2 : goal.invariant_of-self-2
invariant_of-self-2 g c =
    enters g.R.Key.Ord.cmp c.self.inside.core c.apply.new.self c.self.inside.history c.push.new.self
    (Ask c.args.caller c.in_ok-copy_key.field-0) c.of-entry.result.value c.self.invariant c.in_ok-outcome.ensures.state c.of-entry.ensures c.push.ensures

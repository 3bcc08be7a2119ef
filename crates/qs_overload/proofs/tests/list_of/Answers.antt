use Rattle.qs_overload.proofs.tests.list_of.Goals as goal

pub returns-clause-one_length : goal.returns-clause-one_length
returns-clause-one_length c = record { len = 3; each = c.loop-list.invariant.1 }

use Rattle.qe_rules.proofs.tests.a_cycle_is_the_same_from_each_key_and_begins_with_the_least.Given as goal

-- the ledger is that of the blank
abbrev pub ghosts-expect_cycle : goal.ghosts-expect_cycle
ghosts-expect_cycle g a = record { name = a.blank.name; parts = a.blank.parts }

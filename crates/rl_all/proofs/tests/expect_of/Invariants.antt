use Rattle.rl_all.proofs.tests.expect_of.Given as goal

-- the ledger is that of the blank
abbrev pub ghosts-load : goal.ghosts-load
ghosts-load g a = record { name = a.blank.name; parts = a.blank.parts }

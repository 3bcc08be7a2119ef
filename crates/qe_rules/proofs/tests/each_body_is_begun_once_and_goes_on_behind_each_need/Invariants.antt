use Rattle.qe_rules.proofs.tests.each_body_is_begun_once_and_goes_on_behind_each_need.Given as goal

-- the ledger is that of the blank
abbrev pub ghosts-expect_calls : goal.ghosts-expect_calls
ghosts-expect_calls g a = record { name = a.blank.name; parts = a.blank.parts }

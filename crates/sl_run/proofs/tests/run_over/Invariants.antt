use Rattle.sl_run.proofs.tests.run_over.Given as goal

-- the ledger is that of the blank
abbrev pub ghosts-run_counted : goal.ghosts-run_counted
ghosts-run_counted g a = record { name = a.blank.name; parts = a.blank.parts }

use Rattle.tests_statements.proofs.judge.Given as goal

abbrev pub ghosts-agrees : goal.ghosts-agrees
ghosts-agrees a = record { name = a.blank.name; parts = a.blank.parts }

use Rattle.floyd_goal.proofs.side_goals.side.Given as goal

abbrev pub ghosts-side_from : goal.ghosts-side_from
ghosts-side_from a = record { name = a.blank.name; parts = a.blank.parts }

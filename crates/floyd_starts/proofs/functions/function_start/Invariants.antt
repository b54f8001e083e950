use Rattle.floyd_starts.proofs.functions.function_start.Given as goal

abbrev pub ghosts-start_from : goal.ghosts-start_from
ghosts-start_from a = record { name = a.blank.name; parts = a.blank.parts }

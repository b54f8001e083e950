use Rattle.floyd_termread_parts.proofs.objects.sixteen.Given as goal

abbrev pub ghosts-sixteen_from : goal.ghosts-sixteen_from
ghosts-sixteen_from a = record { name = a.blank.name; parts = a.blank.parts }

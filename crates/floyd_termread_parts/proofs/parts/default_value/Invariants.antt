use Rattle.floyd_termread_parts.proofs.parts.default_value.Given as goal

abbrev pub ghosts-default_value_from : goal.ghosts-default_value_from
ghosts-default_value_from a = record { name = a.blank.name; parts = a.blank.parts }

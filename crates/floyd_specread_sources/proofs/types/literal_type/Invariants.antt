use Rattle.floyd_specread_sources.proofs.types.literal_type.Given as goal

abbrev pub ghosts-literal_type_from : goal.ghosts-literal_type_from
ghosts-literal_type_from a = record { name = a.blank.name; parts = a.blank.parts }

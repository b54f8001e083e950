use Rattle.floyd_fieldpath.proofs.nested.nested_type.Given as goal

abbrev pub ghosts-nested_type_from : goal.ghosts-nested_type_from
ghosts-nested_type_from a = record { name = a.blank.name; parts = a.blank.parts }

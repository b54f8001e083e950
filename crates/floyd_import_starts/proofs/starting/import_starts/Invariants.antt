use Rattle.floyd_import_starts.proofs.starting.import_starts.Given as goal

abbrev pub ghosts-starts_from : goal.ghosts-starts_from
ghosts-starts_from a = record { name = a.blank.name; parts = a.blank.parts }

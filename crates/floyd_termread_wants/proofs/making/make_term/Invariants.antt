use Rattle.floyd_termread_wants.proofs.making.make_term.Given as goal

abbrev pub ghosts-make_term_from : goal.ghosts-make_term_from
ghosts-make_term_from a = record { name = a.blank.name; parts = a.blank.parts }

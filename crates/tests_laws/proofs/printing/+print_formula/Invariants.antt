use Rattle.tests_laws.proofs.printing.+print_formula.Given as goal

abbrev pub decreases-print_formula : goal.decreases-print_formula
decreases-print_formula l = l.depth

use Rattle.std.proofs.Common.{◌+◌, ◌*◌}
use Rattle.tests_terms.proofs.terms.+formula.Given as goal

abbrev pub decreases-formula_of : goal.decreases-formula_of
decreases-formula_of g l = 2 * l.depth

abbrev pub decreases-formula_group : goal.decreases-formula_group
decreases-formula_group g l = 2 * l.depth + 1

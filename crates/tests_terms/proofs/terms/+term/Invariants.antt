use Rattle.std.proofs.Common.{◌+◌, ◌*◌}
use Rattle.tests_terms.proofs.terms.+term.Given as goal

abbrev pub decreases-term_of : goal.decreases-term_of
decreases-term_of g l = 3 * l.depth

abbrev pub decreases-group : goal.decreases-group
decreases-group g l = 3 * l.depth + 2

abbrev pub decreases-terms_of : goal.decreases-terms_of
decreases-terms_of g l = 3 * l.depth + 1

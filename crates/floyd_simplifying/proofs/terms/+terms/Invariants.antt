use Rattle.std.proofs.Common.{◌≡◌, ◌+◌, ◌*◌, drop}
use Rattle.floyd_tree.specs.Plain.{height, heights, plains}
use Rattle.floyd_simplifying.specs.SimplifiedClauses.{joined, terms_simplified}
use Rattle.floyd_simplifying.proofs.terms.+terms.Given as goal

abbrev pub decreases-simplify_term : goal.decreases-simplify_term
decreases-simplify_term g l = 2 * height l.t.now

abbrev pub decreases-simplify_terms : goal.decreases-simplify_terms
decreases-simplify_terms g l = 2 * heights (plains l.terms.now) + 1

abbrev pub invariant-simplify_terms-terms : goal.invariant-simplify_terms-terms
invariant-simplify_terms-terms g l = joined l.changed l.all.items (drop l.term-index l.terms) (terms_simplified (drop l.term-index l.terms)) ≡ terms_simplified l.terms

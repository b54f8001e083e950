use Rattle.std.proofs.Common.{◌≡◌, ◌+◌, ◌*◌, drop}
use Rattle.floyd_tree.specs.Plain.{height, heights, plains}
use Rattle.floyd_simplifying.specs.SimplifiedClauses.{joined}
use Rattle.floyd_unfolding.specs.UnfoldedClauses.{terms_unfolded}
use Rattle.floyd_unfolding.proofs.terms.+terms.Given as goal

abbrev pub decreases-unfold_term : goal.decreases-unfold_term
decreases-unfold_term g l = 2 * height l.t.now

abbrev pub decreases-unfold_terms : goal.decreases-unfold_terms
decreases-unfold_terms g l = 2 * heights (plains l.terms.now) + 1

abbrev pub invariant-unfold_terms-terms : goal.invariant-unfold_terms-terms
invariant-unfold_terms-terms g l = joined l.changed l.all.items (drop l.term-index l.terms) (terms_unfolded l.name l.own (drop l.term-index l.terms)) ≡ terms_unfolded l.name l.own l.terms

use Rattle.std.proofs.Common.{◌≡◌, ◌+◌, ◌*◌, length, take}
use Rattle.floyd_assert.specs.AroundClauses.{binders}
use Rattle.floyd_tree.specs.Plain.{plains, height, heights}
use Rattle.floyd_truth.specs.Same.{SameTerms}
use Rattle.floyd_assert.proofs.equality.+terms.Given as goal

abbrev pub decreases-same_term : goal.decreases-same_term
decreases-same_term l = 2 * height l.a.now

abbrev pub decreases-same_terms : goal.decreases-same_terms
decreases-same_terms l = 2 * heights (plains l.a.now) + 1

abbrev pub invariant-same_terms-terms : goal.invariant-same_terms-terms
invariant-same_terms-terms l = (length l.a ≡ length l.b) × SameTerms (binders l.around) (plains (take l.i l.a)) (plains (take l.i l.b))

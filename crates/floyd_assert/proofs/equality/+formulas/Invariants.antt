use Rattle.std.proofs.Common.{◌≡◌, ◌+◌, ◌*◌, length, take}
use Rattle.floyd_assert.specs.AroundClauses.{binders}
use Rattle.floyd_tree.specs.Formulas.{formulas, formula_height, formula_heights}
use Rattle.floyd_truth.specs.Same.{AllSame}
use Rattle.floyd_assert.proofs.equality.+formulas.Given as goal

abbrev pub decreases-same_under : goal.decreases-same_under
decreases-same_under l = 2 * formula_height l.a.now

abbrev pub decreases-all_same : goal.decreases-all_same
decreases-all_same l = 2 * formula_heights (formulas l.a.now) + 1

abbrev pub invariant-all_same-formulas : goal.invariant-all_same-formulas
invariant-all_same-formulas l = (length l.a ≡ length l.b) × AllSame (binders l.around) (formulas (take l.i l.a)) (formulas (take l.i l.b))

use Rattle.std.proofs.Common.{◌≡◌, ◌+◌, ◌*◌, drop}
use Rattle.floyd_tree.specs.Formulas.{formula_height, formula_heights, formulas}
use Rattle.floyd_truth.specs.Capture.{bound_in_some}
use Rattle.floyd_rewriting.proofs.hole_names.+bound.Given as goal

abbrev pub decreases-is_bound : goal.decreases-is_bound
decreases-is_bound l = 2 * formula_height l.f.now

abbrev pub decreases-some_bind : goal.decreases-some_bind
decreases-some_bind l = 2 * formula_heights (formulas l.all.now) + 1

abbrev pub invariant-some_bind-formulas : goal.invariant-some_bind-formulas
invariant-some_bind-formulas l = bound_in_some l.x (formulas (drop l.formula-index l.all)) ≡ bound_in_some l.x (formulas l.all)

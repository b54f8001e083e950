use Rattle.floyd_tree.specs.Formulas.{formula_height}
use Rattle.floyd_goal_formulas.proofs.known.+known.Given as goal

abbrev pub decreases-known : goal.decreases-known
decreases-known l = formula_height l.f.now

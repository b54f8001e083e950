use Rattle.floyd_tree.specs.Formulas.{formula_height}
use Rattle.floyd_pure_quantifiers.proofs.split.+add_conjuncts.Given as goal

abbrev pub decreases-add_conjuncts : goal.decreases-add_conjuncts
decreases-add_conjuncts l = formula_height l.f.now

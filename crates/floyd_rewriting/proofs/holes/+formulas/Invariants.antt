use Rattle.std.proofs.Common.{◌≡◌, ◌+◌, ◌*◌, ◌++◌, ◌||◌, drop, map}
use Rattle.floyd_tree.specs.Formulas.{formula_height, formula_heights, formulas}
use Rattle.floyd_rewriting.specs.Holes.{formula_opened}
use Rattle.floyd_rewriting.specs.Occurrences.{formulas_occur}
use Rattle.floyd_rewriting.proofs.holes.+formulas.Given as goal

abbrev pub decreases-open_formula : goal.decreases-open_formula
decreases-open_formula g l = 3 * formula_height l.f.now + 2

abbrev pub decreases-open_kids : goal.decreases-open_kids
decreases-open_kids g l = 3 * formula_height l.f.now + 1

abbrev pub decreases-open_formulas : goal.decreases-open_formulas
decreases-open_formulas g l = 3 * formula_heights (formulas l.all.now) + 3

abbrev pub invariant-open_formulas-formulas : goal.invariant-open_formulas-formulas
invariant-open_formulas-formulas g l = record {
  items : l.made.items ++ map (formula_opened l.from l.hole) (drop l.formula-index l.all) ≡ map (formula_opened l.from l.hole) l.all;
  changed : (l.changed || formulas_occur l.from (formulas (drop l.formula-index l.all))) ≡ formulas_occur l.from (formulas l.all);
}

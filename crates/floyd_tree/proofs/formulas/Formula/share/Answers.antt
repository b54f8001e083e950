use Rattle.floyd_tree.proofs.FormulaLemmas.{stored_formula_sound}
use Rattle.floyd_tree.proofs.formulas.Formula.share.Goals as goal

pub returns-in_err-clone-clause-sound : goal.returns-in_err-clone-clause-sound
returns-in_err-clone-clause-sound c = stored_formula_sound _ c.args.self.now c.self.invariant c.self.view_is

pub returns-clause-sound : goal.returns-clause-sound
returns-clause-sound c = stored_formula_sound _ c.args.self.now c.self.invariant c.self.view_is

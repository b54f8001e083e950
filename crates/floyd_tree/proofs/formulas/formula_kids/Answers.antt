use Rattle.std.proofs.Common.{sym, ◌∙◌, ap}
use Rattle.floyd_tree.specs.FormulaCode.{listed-formulas}
use Rattle.floyd_tree.specs.FormulaStored.{plain_formula}
use Rattle.floyd_tree.specs.Formulas.{formulas_of}
use Rattle.floyd_tree.proofs.formulas.formula_kids.Goals as goal

pub returns : goal.returns
returns c = sym (listed-formulas _) ∙ ap (λ n. formulas_of (plain_formula n)) c.deref.ensures ∙ ap formulas_of c.f.view_is

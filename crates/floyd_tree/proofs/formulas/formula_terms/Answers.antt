use Rattle.std.proofs.Common.{sym, ◌∙◌, ap}
use Rattle.floyd_tree.specs.Code.{listed-plains}
use Rattle.floyd_tree.specs.FormulaStored.{plain_formula}
use Rattle.floyd_tree.specs.Formulas.{terms_of}
use Rattle.floyd_tree.proofs.formulas.formula_terms.Goals as goal

pub returns : goal.returns
returns c = sym (listed-plains _) ∙ ap (λ n. terms_of (plain_formula n)) c.deref.ensures ∙ ap terms_of c.f.view_is

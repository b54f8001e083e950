-- What a node of a formula keeps beside its head, terms and kids.
use Rattle.std.specs.Prelude.{◌≡◌, ◌+◌, ◌≤◌, true, List, [], ◌∷◌}
use Rattle.std.proofs.Common.{arith}
use denote.Param.Weighed.{most}
use Rattle.floyd_tree.specs.declared.formulas.FormulaNode.{FormulaNode}
use Rattle.floyd_tree.specs.FormulaPrints.{formula_print, formula_summary}
use Rattle.floyd_tree.specs.Formulas.{PlainFormula, Says, formulas, formula_size, formula_height, formula_heights, well_sorted}
use Rattle.floyd_tree.specs.Plain.{plains}

abbrev pub plain_formula : FormulaNode → PlainFormula
plain_formula a = Says a.head (plains a.terms) (formulas a.kids)

pub record IsFormulaStored (a : FormulaNode) : Type 0 where
  pub sorted : well_sorted (plain_formula a) ≡ true
  pub size : a.size ≡ formula_size (plain_formula a)
  pub height : a.height ≡ formula_height (plain_formula a)
  pub small : a.size ≤ 65536
  pub low : a.height ≤ 256
  pub print : a.print ≡ formula_print (plain_formula a)
  pub summary : a.summary ≡ formula_summary (plain_formula a)

-- no kid is as high as the formula
pub most_formula_heights : (kids : List PlainFormula) → most (λ k. formula_height k + 1) kids ≤ formula_heights (formulas kids) + 1
most_formula_heights [] = omega arith
most_formula_heights (k ∷ ks) = omega (arith, most_formula_heights ks)

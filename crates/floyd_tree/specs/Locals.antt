-- Whether the address of a local variable occurs, in a term and in a formula.
use Rattle.std.specs.Prelude.{Bool, true, false, ◌||◌}
use Rattle.floyd_tree_sorts.specs.declared.heads.Head.{Head}
use Rattle.floyd_tree_sorts.specs.declared.heads.Head.TheVariants.{Lv}
use Rattle.floyd_tree.specs.Formulas.{PlainFormula, PlainFormulas, Says, NoFormula, MoreFormulas}
use Rattle.floyd_tree.specs.Plain.{Plain, Plains, At, Done, More}

abbrev pub is_local : Head → Bool
is_local (Lv x) = true
is_local head = false

abbrev mutual
  pub has_local : Plain → Bool
  has_local (At head kids) = is_local head || have_local kids

  pub have_local : Plains → Bool
  have_local Done = false
  have_local (More t ts) = has_local t || have_local ts

abbrev mutual
  pub formula_has_local : PlainFormula → Bool
  formula_has_local (Says head terms kids) = have_local terms || formulas_have_local kids

  pub formulas_have_local : PlainFormulas → Bool
  formulas_have_local NoFormula = false
  formulas_have_local (MoreFormulas f fs) = formula_has_local f || formulas_have_local fs

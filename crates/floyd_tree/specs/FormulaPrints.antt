-- Fingerprints of formulas, and the summary of their variables.
use Rattle.std.specs.Prelude.{ℕ, bit_or}
use Rattle.floyd_tree_sorts.specs.Prints.{blend, form_print}
use Rattle.floyd_tree.specs.Formulas.{PlainFormula, PlainFormulas, Says, NoFormula, MoreFormulas}
use Rattle.floyd_tree.specs.Prints.{prints_from, summaries_from}

abbrev mutual
  pub formula_print : PlainFormula → ℕ
  formula_print (Says head terms kids) = formula_prints_from (prints_from (form_print head) terms) kids

  pub formula_prints_from : ℕ → PlainFormulas → ℕ
  formula_prints_from so_far NoFormula = so_far
  formula_prints_from so_far (MoreFormulas f fs) = formula_prints_from (blend so_far (formula_print f)) fs

-- the bits of all variables that occur, bound ones among them
abbrev mutual
  pub formula_summary : PlainFormula → ℕ
  formula_summary (Says head terms kids) = formula_summaries_from (summaries_from 0 terms) kids

  pub formula_summaries_from : ℕ → PlainFormulas → ℕ
  formula_summaries_from so_far NoFormula = so_far
  formula_summaries_from so_far (MoreFormulas f fs) = formula_summaries_from (bit_or so_far (formula_summary f)) fs

-- Words of the clauses of private functions: lists of terms and of formulas.
use Rattle.std.specs.Prelude.{ℕ, List, Option, Some, None, Result, Ok}
use Rattle.std.specs.Option.{unwrap_or}
use Rattle.floyd_text.specs.declared.refusal.No.{No}
use Rattle.floyd_tree.specs.Formulas.{PlainFormula, Says, form_of, formulas, formulas_of, listed_formulas, terms_of}
use Rattle.floyd_tree.specs.Plain.{Plain, listed, plains}
use Rattle.floyd_assert_trees.specs.declared.items.Fun.{Fun}
use Rattle.floyd_simplifying.specs.Simplified.{formula_written}
use Rattle.floyd_simplifying.specs.SimplifiedClauses.{as_list}
use Rattle.floyd_unfolding.specs.Unfolded.{formulas_unfolded, some_formula, unfolded_in}

module _ (name : List ℕ) (own : Fun) where
  abbrev pub terms_unfolded : List Plain → Result (Option (List Plain)) No
  terms_unfolded ts = as_list listed (unfolded_in name own (plains ts))

  abbrev pub all_unfolded : List PlainFormula → Result (Option (List PlainFormula)) No
  all_unfolded fs = as_list listed_formulas (formulas_unfolded name own (formulas fs))

-- the formula over what its terms and formulas become
abbrev pub both_over : PlainFormula → Option (List Plain) → Option (List PlainFormula) → Result (Option PlainFormula) No
both_over f None None = Ok None
both_over f None (Some kids) = some_formula (formula_written (Says (form_of f) (plains (terms_of f)) (formulas kids)))
both_over f (Some terms) kids = some_formula (formula_written (Says (form_of f) (plains terms) (formulas (unwrap_or kids (formulas_of f)))))

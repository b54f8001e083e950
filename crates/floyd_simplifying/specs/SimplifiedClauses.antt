-- Words of the clauses of private functions: lists of terms and of formulas.
use Rattle.std.specs.Prelude.{Bool, true, false, List, [], ◌∷◌, ◌++◌, Option, Some, None, Result, Ok, Err}
use Rattle.std.specs.Option.{unwrap_or}
use Rattle.floyd_text.specs.declared.refusal.No.{No}
use Rattle.floyd_tree_sorts.specs.declared.connectives.FormulaHead.{FormulaHead}
use Rattle.floyd_tree_sorts.specs.declared.connectives.FormulaHead.TheVariants.{Equal}
use Rattle.floyd_tree.specs.Formulas.{PlainFormula, Says, form_of, formulas, formulas_of, listed_formulas, terms_of}
use Rattle.floyd_tree.specs.Plain.{Plain, listed, plains}
use Rattle.floyd_arith.specs.Same.{same_term}
use Rattle.floyd_simplifying.specs.Simplified.{formula_over, formulas_simplified, simplified_in, true_or}

abbrev pub as_list : {A B : Type 0} → (A → B) → Result (Option A) No → Result (Option B) No
as_list view (Ok None) = Ok None
as_list view (Ok (Some a)) = Ok (Some (view a))
as_list view (Err refusal) = Err refusal

abbrev pub terms_simplified : List Plain → Result (Option (List Plain)) No
terms_simplified ts = as_list listed (simplified_in (plains ts))

abbrev pub all_simplified : List PlainFormula → Result (Option (List PlainFormula)) No
all_simplified fs = as_list listed_formulas (formulas_simplified (formulas fs))

-- what was made, of which something changed or nothing did, and behind it what becomes of the rest
abbrev pub joined : {T : Type 0} → Bool → List T → List T → Result (Option (List T)) No → Result (Option (List T)) No
joined changed made rest (Err refusal) = Err refusal
joined changed made rest (Ok (Some new)) = Ok (Some (made ++ new))
joined true made rest (Ok None) = Ok (Some (made ++ rest))
joined false made rest (Ok None) = Ok None

-- two identical terms, and an equation of such
abbrev pub is_pair : List Plain → Bool
is_pair [] = false
is_pair (a ∷ []) = false
is_pair (a ∷ b ∷ []) = same_term a b
is_pair (a ∷ b ∷ c ∷ ts) = false

abbrev pub identical : FormulaHead → List Plain → Bool
identical Equal terms = is_pair terms
identical head terms = false

-- the formula over what its terms and formulas become
abbrev pub both_over : PlainFormula → Option (List Plain) → Option (List PlainFormula) → Result (Option PlainFormula) No
both_over f None None = Ok (true_or false f)
both_over f None (Some kids) = formula_over (Says (form_of f) (plains (terms_of f)) (formulas kids))
both_over f (Some terms) kids = formula_over (Says (form_of f) (plains terms) (formulas (unwrap_or kids (formulas_of f))))

-- Formulas in writing, by their heads, terms and kids.
use Rattle.std.proofs.Common.{◌≡◌, List, ap, sym, ◌∙◌}
use Rattle.floyd_tree_sorts.specs.declared.connectives.FormulaHead.{FormulaHead}
use Rattle.floyd_tree.specs.Code.{plains-listed}
use Rattle.floyd_tree.specs.FormulaCode.{formulas-listed}
use Rattle.floyd_tree.specs.Formulas.{PlainFormula, Says, form_of, formulas, formulas_of, terms_of}
use Rattle.floyd_tree.specs.Plain.{Plain, plains}
use Rattle.floyd_show_terms.specs.Formulas.{formula_at, formula_text, written_formulas}
use Rattle.floyd_show_terms.specs.Terms.{term_texts}

parts : (f : PlainFormula) → formula_text f ≡ (formula_at (form_of f) (term_texts (plains (terms_of f))) (written_formulas (formulas (formulas_of f)))).text
parts (Says head terms kids) =
    ap (λ ts. (formula_at head (term_texts ts) (written_formulas kids)).text) (sym (plains-listed terms))
    ∙ ap (λ fs. (formula_at head (term_texts (plains (terms_of (Says head terms kids)))) (written_formulas fs)).text) (sym (formulas-listed kids))

-- a formula in writing, by what was seen of it
pub formula_of : (f : PlainFormula) (h seen : FormulaHead) (ts : List Plain) (fs : List PlainFormula) → seen ≡ form_of f → seen ≡ h → ts ≡ terms_of f → fs ≡ formulas_of f
    → formula_text f ≡ (formula_at h (term_texts (plains ts)) (written_formulas (formulas fs))).text
formula_of f h seen ts fs e i t k =
    parts f
    ∙ ap (λ x. (formula_at x (term_texts (plains (terms_of f))) (written_formulas (formulas (formulas_of f)))).text) (sym e ∙ i)
    ∙ ap (λ x. (formula_at h (term_texts (plains x)) (written_formulas (formulas (formulas_of f)))).text) (sym t)
    ∙ ap (λ x. (formula_at h (term_texts (plains ts)) (written_formulas (formulas x))).text) (sym k)

-- Terms and formulas with terms in place of variables, within the limits.
use Rattle.std.specs.Prelude.{ℕ, Bool, if◌then◌else◌, List, map, Result, Ok, Err}
use Rattle.std.specs.List.{list_all}
use Rattle.floyd_text.specs.declared.code.Code.TheVariants.{TermTooLarge}
use Rattle.floyd_text.specs.declared.refusal.No.{No}
use Rattle.floyd_text.specs.declared.refusal.Shown.TheVariants.{Nothing}
use Rattle.floyd_tree.specs.Formulas.{PlainFormula}
use Rattle.floyd_tree.specs.Made.{fits}
use Rattle.floyd_tree.specs.MadeFormulas.{formula_fits}
use Rattle.floyd_tree.specs.Plain.{Plain}
use Rattle.floyd_truth.specs.Replace.{puts, replaced, replaced_formula}

-- what is answered: it, unless a term or formula of it is beyond a limit
abbrev pub within_limits : {T : Type 0} → (T → Bool) → T → Result T No
within_limits within x = if within x then Ok x else Err (record { code = TermTooLarge; shown = Nothing })

-- what is made with these terms in place of these variables
abbrev pub terms_with : List (List ℕ × Plain) → List Plain → Result (List Plain) No
terms_with by ts = within_limits (list_all fits) (map (replaced (puts by)) ts)

abbrev pub formula_with : List (List ℕ × Plain) → PlainFormula → Result PlainFormula No
formula_with by f = within_limits formula_fits (replaced_formula (puts by) f)

abbrev pub formulas_with : List (List ℕ × Plain) → List PlainFormula → Result (List PlainFormula) No
formulas_with by fs = within_limits (list_all formula_fits) (map (replaced_formula (puts by)) fs)

-- Kids are lower than what they stand in.
use Rattle.std.proofs.Common.{◌≡◌, ℕ, ◌+◌, ◌<◌, ◌≤◌, List, length, get_or}
use Rattle.floyd_tree.specs.Formulas.{PlainFormula, formula_height, formula_heights, formulas, formulas_of}
use Rattle.floyd_tree.specs.Plain.{Plain, height, heights, kids_of, plains}
use Rattle.floyd_tree.proofs.Heights as t
use Rattle.floyd_tree.proofs.FormulaLemmas as f

pub height_at : (ts : List Plain) (i : ℕ) (d : Plain) → i < length ts → height (get_or ts i d) ≤ heights (plains ts)
height_at ts i d h = t.height_at ts i d h

pub heights_below : (u : Plain) → heights (plains (kids_of u)) + 1 ≡ height u
heights_below u = t.heights_below u

pub formula_height_at : (fs : List PlainFormula) (i : ℕ) (d : PlainFormula) → i < length fs → formula_height (get_or fs i d) ≤ formula_heights (formulas fs)
formula_height_at fs i d h = f.formula_height_at fs i d h

pub formulas_below : (g : PlainFormula) → formula_heights (formulas (formulas_of g)) + 1 ≤ formula_height g
formulas_below g = f.formulas_below g

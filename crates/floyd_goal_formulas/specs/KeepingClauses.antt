-- Formulas that are made, where they are within the limits.
use Rattle.std.specs.Prelude.{◌≡◌, ◌⊎◌, List, [], ◌∷◌, ◌++◌, Option, Some, None, Result, Ok, Err, if◌then◌else◌}
use Rattle.floyd_text.specs.declared.refusal.No.{No}
use Rattle.floyd_tree.specs.Formulas.{PlainFormula}
use Rattle.floyd_tree.specs.MadeFormulas.{formula_fits}
use Rattle.floyd_goal_formulas.specs.Drops.{Drops}
use Rattle.floyd_goal_formulas.specs.Keeping.{conjunction, too_large}

abbrev pub limited : PlainFormula → Result PlainFormula No
limited f = if formula_fits f then Ok f else Err too_large

abbrev pub optional : Option PlainFormula → Result (Option PlainFormula) No
optional None = Ok None
optional (Some f) = if formula_fits f then Ok (Some f) else Err too_large

abbrev pub conjoined : List PlainFormula → Result (Option PlainFormula) No
conjoined fs = optional (conjunction fs)

-- a formula is added to others, if it needs a proof
abbrev pub IsKept : List PlainFormula → PlainFormula → List PlainFormula → List PlainFormula → Type 0
IsKept hs f all new = (Drops hs f × (new ≡ all)) ⊎ (¬ Drops hs f × (new ≡ all ++ f ∷ []))

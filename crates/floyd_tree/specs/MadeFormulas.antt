-- What may be made of formulas: a node that is well sorted and within the limits.
use Rattle.std.specs.Prelude.{ℕ, ◌+◌, max, Option, Some, None, Bool, ◌&&◌, nat_le, if◌then◌else◌, Result, List}
use Rattle.std.specs.Option.{option_or}
use Rattle.floyd_tree_sorts.specs.declared.connectives.FormulaHead.{FormulaHead}
use Rattle.floyd_tree.specs.declared.stop.MakeStop.{MakeStop}
use Rattle.floyd_tree.specs.declared.stop.MakeStop.TheVariants.{IllSorted, TooLarge}
use Rattle.floyd_tree.specs.Formulas.{PlainFormula, PlainFormulas, Says, NoFormula, MoreFormulas, formulas, formula_size, formula_sizes, formula_height, formula_heights, well_sorted}
use Rattle.floyd_tree.specs.Made.{faults, unless}
use Rattle.floyd_tree.specs.Plain.{Plain, Plains, plains, sizes, heights}

-- beyond no limit
abbrev pub formula_fits : PlainFormula → Bool
formula_fits f = nat_le (formula_size f) 65536 && nat_le (formula_height f) 256

-- why a node may not be made, where its terms and kids are made already
abbrev pub formula_fault_at : PlainFormula → Option MakeStop
formula_fault_at f = if well_sorted f then (if formula_fits f then None else Some TooLarge) else Some IllSorted

-- what is made of a head and of terms and kids that are made already
abbrev pub made_formula : FormulaHead → List Plain → List PlainFormula → Result PlainFormula MakeStop
made_formula head terms kids = unless (formula_fault_at (Says head (plains terms) (formulas kids))) (Says head (plains terms) (formulas kids))

-- the first fault of a formula that is made from its leaves up and from left to right
abbrev mutual
  pub formula_fault : PlainFormula → Option MakeStop
  formula_fault (Says head terms kids) = option_or (faults terms) (option_or (formula_faults kids) (formula_fault_at (Says head terms kids)))

  pub formula_faults : PlainFormulas → Option MakeStop
  formula_faults NoFormula = None
  formula_faults (MoreFormulas f fs) = option_or (formula_fault f) (formula_faults fs)

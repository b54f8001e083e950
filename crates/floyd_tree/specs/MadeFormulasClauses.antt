-- What is measured before a node of a formula is made.
use Rattle.std.specs.Prelude.{ℕ, ◌+◌, max, Option, Some, None, ◌&&◌, nat_le, if◌then◌else◌}
use Rattle.floyd_tree.specs.Formulas.{PlainFormulas, formula_sizes, formula_heights}
use Rattle.floyd_tree.specs.Plain.{Plains, sizes, heights}

-- the size and the height of a formula with these terms and kids, unless it is beyond a limit
abbrev pub formula_measures_of : Plains → PlainFormulas → Option (ℕ × ℕ)
formula_measures_of terms kids =
    if nat_le (sizes terms + formula_sizes kids + 1) 65536 && nat_le (max (heights terms) (formula_heights kids) + 1) 256 then
    Some (sizes terms + formula_sizes kids + 1, max (heights terms) (formula_heights kids) + 1)
    else None

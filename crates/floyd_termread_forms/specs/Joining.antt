-- Connectives group to the right: their sides are joined, the last first, and what is made begins where its left side begins.
use Rattle.std.specs.Prelude.{List, [], ◌∷◌, Ok}
use Rattle.floyd_tree_sorts.specs.declared.connectives.FormulaHead.{FormulaHead}
use Rattle.floyd_tree.specs.Formulas.{PlainFormula}
use Rattle.floyd_termread_wants.specs.Judging.{Judged, ◌>>=◌, cut_off}
use Rattle.floyd_termread_forms.specs.declared.sides.Side.{Side}
use Rattle.floyd_termread_forms.specs.Making.{written, on_two}

abbrev pub joined_sides : FormulaHead → List Side → Judged PlainFormula
joined_sides head [] = cut_off
joined_sides head (x ∷ []) = Ok x.formula
joined_sides head (x ∷ y ∷ xs) = joined_sides head (y ∷ xs) >>= λ rest. written x.place (on_two head x.formula rest)

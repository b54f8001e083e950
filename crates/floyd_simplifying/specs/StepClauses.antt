-- Words of the clauses of private functions: what takes the place of a node, by its kids.
use Rattle.std.specs.Prelude.{List, [], ◌∷◌, None, Ok}
use Rattle.floyd_tree_sorts.specs.declared.heads.Head.{Head}
use Rattle.floyd_tree.specs.Plain.{Plain}
use Rattle.floyd_simplifying.specs.Simplified.{Step, step_of_one, step_of_two}

abbrev pub step_over : Head → List Plain → Step
step_over head [] = Ok None
step_over head (a ∷ []) = step_of_one head a
step_over head (a ∷ b ∷ []) = step_of_two head a b
step_over head (a ∷ b ∷ c ∷ ts) = Ok None

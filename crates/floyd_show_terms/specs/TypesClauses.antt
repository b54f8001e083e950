-- Functions, as the program takes shapes apart.
use Rattle.std.specs.Prelude.{ℕ, List, [], ◌∷◌, ◌++◌, codes, drop}
use Rattle.floyd_tree_sorts.specs.declared.shape.Shape.{Shape}
use Rattle.floyd_tree_sorts.specs.Table.{arrays}
use Rattle.floyd_show_terms.specs.Types.{type_text}

-- parameters, each with its mark behind it
abbrev pub parameters_text : List Shape → List (List ℕ) → List ℕ
parameters_text [] sizes = []
parameters_text (shape ∷ more) sizes = type_text shape sizes ++ codes "; " ++ parameters_text more (drop (arrays shape) sizes)

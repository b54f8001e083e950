-- How paths of fields and subscripts are written.
use Rattle.std.specs.Prelude.{ℕ, List, [], ◌∷◌, ◌++◌, codes, drop}
use Rattle.floyd_tree_sorts.specs.declared.connectives.StepShape.{StepShape}
use Rattle.floyd_tree_sorts.specs.declared.connectives.StepShape.TheVariants as s
use Rattle.floyd_tree.specs.declared.paths.PathStep.{PathStep}
use Rattle.floyd_tree.specs.declared.paths.PathStep.TheVariants.{Field, Subscript}
use Rattle.floyd_show_terms.specs.Terms.{term_text}
use Rattle.floyd_show_terms.specs.Types.{first_text}

abbrev pub step_text : PathStep → List ℕ
step_text (Field name) = codes "." ++ name
step_text (Subscript t) = codes "[" ++ term_text t ++ codes "]"

abbrev pub steps_text : List PathStep → List ℕ
steps_text [] = []
steps_text (step ∷ steps) = step_text step ++ steps_text steps

abbrev pub path_text : List PathStep → List ℕ
path_text steps = codes "[" ++ steps_text steps ++ codes "]"

-- steps whose subscripts are written so
abbrev pub shape_steps_text : List StepShape → List (List ℕ) → List ℕ
shape_steps_text [] ts = []
shape_steps_text (s.Field name ∷ steps) ts = codes "." ++ name ++ shape_steps_text steps ts
shape_steps_text (s.Subscript ∷ steps) ts = codes "[" ++ first_text ts ++ codes "]" ++ shape_steps_text steps (drop 1 ts)

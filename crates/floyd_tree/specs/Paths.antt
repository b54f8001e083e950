-- The places of a path.
use Rattle.std.specs.Prelude.{Option, Some, None, List, [], ◌∷◌}
use Rattle.floyd_tree.specs.declared.paths.PathStep.{PathStep}

-- the steps that the places hold
abbrev pub steps_in : List (Option PathStep) → List PathStep
steps_in [] = []
steps_in (Some step ∷ more) = step ∷ steps_in more
steps_in (None ∷ more) = steps_in more

-- each place holds a step
abbrev pub AllHold : List (Option PathStep) → Type 0
AllHold [] = Unit {0}
AllHold (Some step ∷ more) = AllHold more
AllHold (None ∷ more) = ⊥

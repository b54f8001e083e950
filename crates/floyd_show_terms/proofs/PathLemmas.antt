-- What is left of a path.
use Rattle.std.proofs.Common.{◌≡◌, ◌+◌, ◌++◌, List, ℕ, Some, drop, ap, ◌∙◌}
use Rattle.std.specs.Prelude.{slice_get}
use Rattle.std.proofs.lemmas.Option.{get_or_from_slice_get, slice_get_within}
use Rattle.std.proofs.lemmas.List.{at_drop_more}
use Rattle.floyd_tree.specs.declared.paths.PathStep.{PathStep}
use Rattle.floyd_show_terms.specs.Paths.{step_text, steps_text}

pub step_left : (steps : List PathStep) (i : ℕ) (step : PathStep) → slice_get steps i ≡ Some step → steps_text (drop i steps) ≡ step_text step ++ steps_text (drop (i + 1) steps)
step_left steps i step e =
    at_drop_more steps_text steps i step (slice_get_within steps i step e) ∙ ap (λ s. step_text s ++ steps_text (drop (i + 1) steps)) (get_or_from_slice_get steps i step step e)

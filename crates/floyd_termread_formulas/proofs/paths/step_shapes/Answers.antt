use Rattle.std.proofs.Common.{◌∙◌}
use Rattle.floyd_termread_formulas.proofs.StepLemmas.{shape_next}
use Rattle.floyd_termread_formulas.proofs.paths.step_shapes.Goals as goal

pub steps-preserved : goal.steps-preserved
steps-preserved c =
    shape_next c.args.path.now c.steps.place c.step.result.now c.in_ok-shape.shape c.steps.all c.push.new.self c.step.ensures c.in_ok-shape.ensures c.in_ok-push.ensures.ok ∙ c.steps.invariant

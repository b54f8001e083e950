use Rattle.std.proofs.Common.{◌∙◌}
use Rattle.floyd_entail.proofs.FactsLemmas.{shaped_step}
use Rattle.floyd_entail.proofs.facts.step_shapes.Goals as goal

pub steps-preserved : goal.steps-preserved
steps-preserved c =
    shaped_step c.args.path.now c.steps.place c.step.result.now c.in_ok-shape.shape c.steps.all c.push.new.self c.step.ensures c.in_ok-shape.ensures c.in_ok-push.ensures.ok ∙ c.steps.invariant

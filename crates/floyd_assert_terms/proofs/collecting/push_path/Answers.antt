use Rattle.std.proofs.Common.{◌∙◌}
use Rattle.floyd_assert_changes.proofs.Parting.{pushed_step}
use Rattle.floyd_assert_terms.proofs.collecting.push_path.Goals as goal

pub steps-preserved : goal.steps-preserved
steps-preserved c =
    pushed_step c.args.path.now c.steps.place c.step.result.now c.steps.all.items c.push_step.new.all.items c.step.ensures c.in_ok-push_step.ensures ∙ c.steps.invariant

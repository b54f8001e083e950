use Rattle.std.proofs.Common.{◌∙◌}
use Rattle.floyd_forward.proofs.PathLemmas.{pushed, all_there}
use Rattle.floyd_forward.proofs.objects.steps_behind.Goals as goal

pub steps-preserved : goal.steps-preserved
steps-preserved c =
    pushed c.args.path.now c.steps.place c.steps.rest _ c.step.result.now c.in_ok-share.field-0 c.step.ensures c.in_ok-share.ensures c.in_ok-push.ensures.ok ∙ c.steps.invariant

pub returns : goal.returns
returns c = all_there c.args.path.now c.args.first c.steps.place c.steps.rest c.len-place-end.result c.len-place-end.ensures c.steps-test.false c.steps.invariant

use Rattle.std.proofs.Common.{◌∙◌}
use Rattle.floyd_assert_terms.proofs.Filled.{path_made, path_rest}
use Rattle.floyd_assert_terms.proofs.filling.fill_path.Goals as goal

pub steps-preserved : goal.steps-preserved
steps-preserved c =
    let path = c.args.path.now in
    let i = c.steps.place in
    let s = c.step.result.now in
    let new = c.in_ok-step.step in
    let left = c.steps.left.now in
    let rest = c.in_ok-step.rest.now in
    record {
      made = path_made path i s new left rest c.step.ensures c.in_ok-step.ensures c.steps.all c.push.new.self c.in_ok-push.ensures.ok ∙ c.steps.invariant.made;
      rest = path_rest path i s new left rest c.step.ensures c.in_ok-step.ensures ∙ c.steps.invariant.rest;
    }

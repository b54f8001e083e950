use Rattle.std.proofs.Common.{◌≡◌, ◌-◌, ap, length, take, ◌∙◌, arith}
use Rattle.floyd_arrays_structs.proofs.AroundLemmas.{step_taken}
use Rattle.floyd_arrays_structs.proofs.around.outer_path.Goals as goal

pub steps-preserved : goal.steps-preserved
steps-preserved c =
    step_taken c.args.path.now c.steps.place c.step.result.now c.in_ok-next.next c.steps.outer c.push.new.self c.step.ensures c.in_ok-next.ensures c.in_ok-push.ensures.ok c.steps.invariant

pub returns : goal.returns
returns c =
    let end : c.steps.place ≡ length c.args.path.now - 1 = omega arith in
    c.steps.invariant ∙ ap (λ n. take n c.args.path.now) end

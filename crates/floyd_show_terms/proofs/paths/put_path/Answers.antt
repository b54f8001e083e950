use Rattle.std.proofs.Common.{◌+◌, ◌++◌, drop, ap, sym, ◌∙◌}
use Rattle.std.proofs.lemmas.List.{append_assoc}
use Rattle.floyd_show_terms.specs.Paths.{step_text, steps_text}
use Rattle.floyd_show_terms.proofs.PathLemmas.{step_left}
use Rattle.floyd_show_terms.proofs.paths.put_path.Goals as goal

pub steps-preserved : goal.steps-preserved
steps-preserved c =
    let path = c.args.path.now in
    let i = c.steps.place in
    let rest = steps_text (drop (i + 1) path) in
    ap (λ x. x ++ rest) c.in_ok-put_step.ensures ∙ append_assoc c.steps.out (step_text c.step.result.now) rest
    ∙ ap (λ x. c.steps.out ++ x) (sym (step_left path i c.step.result.now c.step.ensures))
    ∙ c.steps.invariant

use Rattle.std.proofs.Common.{◌∙◌}
use Rattle.floyd_termread_formulas.proofs.StepLemmas.{subscript_next}
use Rattle.floyd_termread_formulas.proofs.paths.put_subscripts.Goals as goal

pub steps-preserved : goal.steps-preserved
steps-preserved c =
    subscript_next c.args.path.now c.steps.place c.step.result.now c.steps.all c.put_subscript.new.all c.step.ensures c.in_ok-put_subscript.ensures ∙ c.steps.invariant

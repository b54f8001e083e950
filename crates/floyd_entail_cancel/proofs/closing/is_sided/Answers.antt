use Rattle.std.proofs.Common.{◌≡◌, ◌++◌, ◌∙◌, List, subst}
use Rattle.floyd_goal.specs.Answers.{IsAnswer}
use Rattle.floyd_goal_parts.specs.Rows.{Sided}
use Rattle.floyd_tree.specs.Formulas.{PlainFormula}
use Rattle.floyd_entail_cancel.specs.Cancel.{closed}
use Rattle.floyd_entail_cancel.proofs.closing.is_sided.Goals as goal

pub returns : goal.returns
returns g c =
    record {
      exact = subst (λ (fs : List PlainFormula). IsAnswer (Sided c.args.context.now fs closed) c.closing.result) (c.as_slice.ensures ∙ c.in_ok-formulas.ensures) c.closing.ensures.exact;
    }

use Rattle.std.proofs.Common.{[], ◌∷◌, subst}
use Rattle.floyd_tree.specs.Formulas.{PlainFormula}
use Rattle.floyd_goal.specs.Answers.{IsAnswer}
use Rattle.floyd_goal_formulas.specs.Said.{Saying}
use Rattle.floyd_pure_formulas.specs.Mp.{ByImplication}
use Rattle.floyd_pure_formulas.specs.Rows.{Concludes}
use Rattle.floyd_pure_formulas.proofs.mp.by_implication.Goals as goal

pub returns-in_ok-share-in-Implication : goal.returns-in_ok-share-in-Implication
returns-in_ok-share-in-Implication g c =
    subst (λ (s : Saying). IsAnswer (ByImplication c.args.goal.now c.args.args.now s) c.concluding.result) c.in-Implication.ensures
    (subst (λ (x : PlainFormula). IsAnswer (Concludes c.args.goal.now (x ∷ []) c.in-Implication.conclusion.now) c.concluding.result) c.in_ok-share-in-Implication.ensures.value c.concluding.ensures.exact)

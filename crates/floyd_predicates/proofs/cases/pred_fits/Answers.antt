use Rattle.std.proofs.Common.{◌≡◌, sym, subst}
use Rattle.std.specs.Prelude.{IfOk, List, map}
use Rattle.floyd_assert_trees.specs.declared.items.PredBody.{PredBody}
use Rattle.floyd_assert_trees.specs.declared.items.PredCase.{PredCase}
use Rattle.floyd_predicates.specs.WellFormed.{pred_fits, of_first}
use Rattle.floyd_predicates.proofs.cases.pred_fits.Goals as goal

pub returns-in-Cases : goal.returns-in-Cases
returns-in-Cases c =
    subst (λ (b : PredBody). IfOk c.pred_cases_fit.result (λ r. r ≡ pred_fits c.args.arguments.now b)) (sym c.in-Cases.is)
    (subst (λ (cs : List PredCase). IfOk c.pred_cases_fit.result (λ r. r ≡ of_first c.args.arguments.now (map (λ (d : PredCase). d.pattern) cs))) c.as_slice.ensures c.pred_cases_fit.ensures)

use Rattle.std.proofs.Common.{◌≡◌, sym, subst}
use Rattle.std.specs.Prelude.{IfOk, List, map}
use Rattle.floyd_assert_trees.specs.declared.items.FunBody.{FunBody}
use Rattle.floyd_assert_trees.specs.declared.items.FunCase.{FunCase}
use Rattle.floyd_predicates.specs.WellFormed.{fun_fits, of_first}
use Rattle.floyd_predicates.proofs.cases.fun_fits.Goals as goal

pub returns-in-Cases : goal.returns-in-Cases
returns-in-Cases c =
    subst (λ (b : FunBody). IfOk c.fun_cases_fit.result (λ r. r ≡ fun_fits c.args.arguments.now b)) (sym c.in-Cases.is)
    (subst (λ (cs : List FunCase). IfOk c.fun_cases_fit.result (λ r. r ≡ of_first c.args.arguments.now (map (λ (d : FunCase). d.pattern) cs))) c.as_slice.ensures c.fun_cases_fit.ensures)

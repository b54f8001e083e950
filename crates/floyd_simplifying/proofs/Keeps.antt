-- Terms and formulas keep what they mean.
use Rattle.std.proofs.Common.{Some, subst}
use Rattle.floyd_goal_formulas.proofs.Values.{valued}
use Rattle.floyd_tree_values.specs.Means.{Means}
use Rattle.floyd_tree_values.proofs.OneValue.{one_value}
use Rattle.floyd_simplifying.specs.Laws.{KeepsValue, SimplifyingKeeps}
use Rattle.floyd_simplifying.proofs.FormulasKept.{formula_kept}
use Rattle.floyd_simplifying.proofs.TermsKept.{term_kept}

pub value_kept : KeepsValue
value_kept defs scope env s t made d keeps suits fit e =
    let k = term_kept defs scope env keeps suits t s fit.allowed fit.sorted (Some made) e in
    let v = valued defs scope env keeps suits t s fit.allowed fit.sorted in
    (λ m. subst (Means defs env t) (one_value defs (k.means v.0 v.1) d m) v.1, λ m. k.means d m)

pub truth_kept : SimplifyingKeeps
truth_kept defs specs scope env f made keeps suits fit e =
    formula_kept defs specs env keeps scope env.variables suits f fit.sorted fit.allowed (Some made) e

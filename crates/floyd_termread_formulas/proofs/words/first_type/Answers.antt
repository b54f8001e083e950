use Rattle.floyd_termread_scope.specs.Scopes.{env}
use Rattle.floyd_termread_terms.proofs.Chains.{one_stops, one_goes}
use Rattle.floyd_termread_formulas.specs.Formulas.{type_in}
use Rattle.floyd_termread_formulas.proofs.ItemLemmas.{type_some}
use Rattle.floyd_termread_formulas.proofs.words.first_type.Goals as goal

pub returns-in_err-judge_part-in-Some : goal.returns-in_err-judge_part-in-Some
returns-in_err-judge_part-in-Some c = record {
  exact = one_stops _ _ _ _ _ type_in (type_some c.args.items.now (env c.args.scope.now c.args.bound.now) c.args.goal.now c.in-Some.item.now c.in-Some.ensures.value) c.from_residual.ensures.1 c.in_err-judge_part-in-Some.ensures.exact;
}

pub returns-in_ok-judge_part-in-Some : goal.returns-in_ok-judge_part-in-Some
returns-in_ok-judge_part-in-Some c = record {
  exact = one_goes _ _ _ _ type_in _ (type_some c.args.items.now (env c.args.scope.now c.args.bound.now) c.args.goal.now c.in-Some.item.now c.in-Some.ensures.value) c.in_ok-judge_part-in-Some.ensures.exact c.type_in.ensures.exact;
}

use Rattle.floyd_specread_items.proofs.VariableLemmas.{argument_env}
use Rattle.floyd_specread_items.proofs.predicates.whole_body_at.Goals as goal

pub returns-clause-exact : goal.returns-clause-exact
returns-clause-exact c = rw (argument_env c.args.scope.now c.args.item.arguments.now c.in_ok-bound.bound c.in_ok-bound.ensures) at c.judged_body_at.ensures.exact

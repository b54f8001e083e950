use Rattle.std.proofs.Common.{ℕ, Ok, Err, refl}
use Rattle.floyd_assert_trees.specs.declared.items.PredBody.{PredBody}
use Rattle.floyd_termread.specs.Brackets.{outermost}
use Rattle.floyd_specread_items.specs.Predicates as specs
use Rattle.floyd_termread_parts.proofs.Chains.{stopped}
use Rattle.floyd_specread_items.proofs.predicates.cases_at.Goals as goal

pub returns-in_err-cases-clause-exact : goal.returns-in_err-cases-clause-exact
returns-in_err-cases-clause-exact c =
    stopped (λ (x : PredBody × ℕ). x) (specs.pred_cases c.args.text.bytes.now c.args.text.tokens.now c.args.item.own.now c.args.item.arguments.now (outermost c.args.scope.now) c.args.at) c.from_residual-in_err-cases.result c.in_err-cases.field-0.0 c.from_residual-in_err-cases.ensures.1
    (λ refusal e. (Ok (c.in_ok-first.first, c.in_ok-first.second), c.in_ok-first.ensures.exact, (Err refusal, rw e at c.in_err-cases.ensures.exact, refl)))

pub returns-clause-exact : goal.returns-clause-exact
returns-clause-exact c =
    (Ok (c.in_ok-first.first, c.in_ok-first.second), c.in_ok-first.ensures.exact, (Ok (c.in_ok-cases.cases, c.in_ok-cases.behind), c.in_ok-cases.ensures.exact, refl))

use Rattle.std.proofs.Common.{ℕ, Ok, Err, refl}
use Rattle.floyd_assert_trees.specs.declared.items.PredCase.{PredCase}
use Rattle.floyd_termread.specs.Brackets.{outermost}
use Rattle.floyd_specread_items.specs.Predicates as specs
use Rattle.floyd_termread_parts.proofs.Chains.{stopped}
use Rattle.floyd_specread_items.proofs.predicates.case_at.Goals as goal

pub returns-in_err-pattern-clause-exact : goal.returns-in_err-pattern-clause-exact
returns-in_err-pattern-clause-exact c =
    stopped (λ (x : PredCase × ℕ). x) (specs.pred_case c.args.text.bytes.now c.args.text.tokens.now c.args.item.own.now c.args.item.arguments.now (outermost c.args.scope.now) c.args.at) c.from_residual.result c.in_err-pattern.field-0.0 c.from_residual.ensures.1
    (λ refusal e. (Err refusal, rw e at c.in_err-pattern.ensures.exact, refl))

pub returns-in_err-_arrow-clause-exact : goal.returns-in_err-_arrow-clause-exact
returns-in_err-_arrow-clause-exact c =
    stopped (λ (x : PredCase × ℕ). x) (specs.pred_case c.args.text.bytes.now c.args.text.tokens.now c.args.item.own.now c.args.item.arguments.now (outermost c.args.scope.now) c.args.at) c.from_residual-in_err-_arrow.result c.in_err-_arrow.field-0.0 c.from_residual-in_err-_arrow.ensures.1
    (λ refusal e. (Ok (c.in_ok-pattern.pattern, c.in_ok-pattern.first), c.in_ok-pattern.ensures.exact, (Err refusal, rw e at c.in_err-_arrow.ensures.exact, refl)))

pub returns-in_err-body-clause-exact : goal.returns-in_err-body-clause-exact
returns-in_err-body-clause-exact c =
    stopped (λ (x : PredCase × ℕ). x) (specs.pred_case c.args.text.bytes.now c.args.text.tokens.now c.args.item.own.now c.args.item.arguments.now (outermost c.args.scope.now) c.args.at) c.from_residual-in_err-body.result c.in_err-body.field-0.0 c.from_residual-in_err-body.ensures.1
    (λ refusal e. (Ok (c.in_ok-pattern.pattern, c.in_ok-pattern.first), c.in_ok-pattern.ensures.exact, (Ok (c.in_ok-_arrow._arrow, c.in_ok-_arrow.second), c.in_ok-_arrow.ensures.exact, (Err refusal, rw e at c.in_err-body.ensures.exact, refl))))

pub returns-clause-exact : goal.returns-clause-exact
returns-clause-exact c =
    (Ok (c.in_ok-pattern.pattern, c.in_ok-pattern.first), c.in_ok-pattern.ensures.exact, (Ok (c.in_ok-_arrow._arrow, c.in_ok-_arrow.second), c.in_ok-_arrow.ensures.exact, (Ok (c.in_ok-body.body, c.in_ok-body.behind), c.in_ok-body.ensures.exact, refl)))

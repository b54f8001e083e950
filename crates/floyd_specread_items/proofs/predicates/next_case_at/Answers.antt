use Rattle.std.proofs.Common.{ℕ, Ok, Err, refl}
use Rattle.floyd_assert_trees.specs.declared.items.PredCase.{PredCase}
use Rattle.floyd_termread.specs.Brackets.{outermost}
use Rattle.floyd_specread_items.specs.Predicates as specs
use Rattle.floyd_termread_parts.proofs.Chains.{stopped, carried}
use Rattle.floyd_specread_items.proofs.predicates.next_case_at.Goals as goal

pub returns-in_err-_bar-clause-exact : goal.returns-in_err-_bar-clause-exact
returns-in_err-_bar-clause-exact c =
    stopped (λ (x : PredCase × ℕ). x) (specs.next_case c.args.text.bytes.now c.args.text.tokens.now c.args.item.own.now c.args.item.arguments.now (outermost c.args.scope.now) c.args.cases.now c.args.at) c.from_residual.result c.in_err-_bar.field-0.0 c.from_residual.ensures.1
    (λ refusal e. (Err refusal, rw e at c.in_err-_bar.ensures.exact, refl))

pub returns-clause-exact : goal.returns-clause-exact
returns-clause-exact c =
    carried (λ (x : PredCase × ℕ). x) (specs.next_case c.args.text.bytes.now c.args.text.tokens.now c.args.item.own.now c.args.item.arguments.now (outermost c.args.scope.now) c.args.cases.now c.args.at) c.case_at.result (specs.pred_case c.args.text.bytes.now c.args.text.tokens.now c.args.item.own.now c.args.item.arguments.now (outermost c.args.scope.now) c.in_ok-_bar.first) c.case_at.ensures.exact
    (λ a d. (Ok (c.in_ok-_bar._bar, c.in_ok-_bar.first), c.in_ok-_bar.ensures.exact, d))

use Rattle.std.proofs.Common.{ℕ, Ok, Err, refl, ap}
use Rattle.floyd_goal_trees.specs.declared.args.Args.{Args}
use Rattle.floyd_termread.specs.Brackets.{outermost}
use Rattle.floyd_play_arguments.proofs.Chains.{stopped}
use Rattle.floyd_play_reading.specs.Assertions as specs
use Rattle.floyd_play_reading.proofs.assertions.assertion_args_at.Goals as goal

pub returns-in_err-assertion-clause-exact : goal.returns-in_err-assertion-clause-exact
returns-in_err-assertion-clause-exact c =
    stopped (λ (x : Args × ℕ). x) (specs.enclosed_assertion c.args.text.bytes.now c.args.text.tokens.now (outermost c.args.scope.now) c.args.at) c.from_residual.result c.in_err-assertion.field-0.0 c.from_residual.ensures.1
    (λ refusal e. (Err refusal, rw e at c.in_err-assertion.ensures.exact, refl))

pub returns-clause-exact : goal.returns-clause-exact
returns-clause-exact c =
    (Ok (c.in_ok-assertion.assertion, c.in_ok-assertion.behind), c.in_ok-assertion.ensures.exact, ap (λ (a : Args). Ok (a, c.in_ok-assertion.behind)) c.in_ok-args.ensures)

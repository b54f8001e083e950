use Rattle.std.proofs.Common.{ℕ, Ok, Err, refl}
use Rattle.floyd_assert_trees.specs.declared.assertion.Assertion.{Assertion}
use Rattle.floyd_termread.specs.Brackets.{outermost}
use Rattle.floyd_play_arguments.proofs.Chains.{stopped}
use Rattle.floyd_play_reading.specs.Assertions as specs
use Rattle.floyd_play_reading.proofs.assertions.one_assertion_at.Goals as goal

pub returns-in_err-assertion-clause-exact : goal.returns-in_err-assertion-clause-exact
returns-in_err-assertion-clause-exact c =
    stopped (λ (x : Assertion × ℕ). x) (specs.one_assertion c.args.text.bytes.now c.args.text.tokens.now (outermost c.args.scope.now) c.args.at) c.from_residual-in_err-assertion.result c.in_err-assertion.field-0.0 c.from_residual-in_err-assertion.ensures.1
    (λ refusal e. (Ok (c.in_ok-_open._open, c.in_ok-_open.first), c.in_ok-_open.ensures.exact, (Err refusal, rw e at c.in_err-assertion.ensures.exact, refl)))

pub returns-in_err-_close-clause-exact : goal.returns-in_err-_close-clause-exact
returns-in_err-_close-clause-exact c =
    stopped (λ (x : Assertion × ℕ). x) (specs.one_assertion c.args.text.bytes.now c.args.text.tokens.now (outermost c.args.scope.now) c.args.at) c.from_residual-in_err-_close.result c.in_err-_close.field-0.0 c.from_residual-in_err-_close.ensures.1
    (λ refusal e. (Ok (c.in_ok-_open._open, c.in_ok-_open.first), c.in_ok-_open.ensures.exact, (Ok (c.in_ok-assertion.assertion, c.in_ok-assertion.second), c.in_ok-assertion.ensures.exact, (Err refusal, rw e at c.in_err-_close.ensures.exact, refl))))

pub returns-clause-exact : goal.returns-clause-exact
returns-clause-exact c =
    (Ok (c.in_ok-_open._open, c.in_ok-_open.first), c.in_ok-_open.ensures.exact, (Ok (c.in_ok-assertion.assertion, c.in_ok-assertion.second), c.in_ok-assertion.ensures.exact, (Ok (c.in_ok-_close._close, c.in_ok-_close.behind), c.in_ok-_close.ensures.exact, refl)))

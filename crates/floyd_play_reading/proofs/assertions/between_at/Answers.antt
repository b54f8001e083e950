use Rattle.std.proofs.Common.{ℕ, Option, Ok, Err, refl}
use Rattle.floyd_assert_trees.specs.declared.assertion.Assertion.{Assertion}
use Rattle.floyd_termread.specs.Brackets.{outermost}
use Rattle.floyd_play_arguments.proofs.Chains.{stopped}
use Rattle.floyd_play_reading.specs.Assertions as specs
use Rattle.floyd_play_reading.proofs.assertions.between_at.Goals as goal

pub returns-in_err-assertion-clause-exact : goal.returns-in_err-assertion-clause-exact
returns-in_err-assertion-clause-exact c =
    stopped (λ (x : Option Assertion × ℕ). x) (specs.between c.args.text.bytes.now c.args.text.tokens.now (outermost c.args.scope.now) c.args.at) c.from_residual-in_err-assertion.result c.in_err-assertion.field-0.0 c.from_residual-in_err-assertion.ensures.1
    (λ refusal e. (Ok (c.in_ok-_word._word, c.in_ok-_word.first), rw c.as_slice.ensures at c.in_ok-_word.ensures.exact, (Err refusal, rw e at c.in_err-assertion.ensures.exact, refl)))

pub returns-clause-exact : goal.returns-clause-exact
returns-clause-exact c =
    (Ok (c.in_ok-_word._word, c.in_ok-_word.first), rw c.as_slice.ensures at c.in_ok-_word.ensures.exact, (Ok (c.in_ok-assertion.assertion, c.in_ok-assertion.behind), c.in_ok-assertion.ensures.exact, refl))

use Rattle.std.proofs.Common.{ℕ, Ok, Err, refl, ap, ◌∙◌}
use Rattle.floyd_goal_trees.specs.declared.args.Args.{Args}
use Rattle.floyd_termread.specs.Brackets.{outermost}
use Rattle.floyd_play_arguments.proofs.Chains.{stopped}
use Rattle.floyd_play_reading.specs.Assertions as specs
use Rattle.floyd_play_reading.proofs.assertions.loop_at.Goals as goal

pub returns-in_err-invariant-clause-exact : goal.returns-in_err-invariant-clause-exact
returns-in_err-invariant-clause-exact c =
    stopped (λ (x : Args × ℕ). x) (specs.loop_assertions c.args.text.bytes.now c.args.text.tokens.now (outermost c.args.scope.now) c.args.at) c.from_residual.result c.in_err-invariant.field-0.0 c.from_residual.ensures.1
    (λ refusal e. (Err refusal, rw e at c.in_err-invariant.ensures.exact, refl))

pub returns-in_err-between-clause-exact : goal.returns-in_err-between-clause-exact
returns-in_err-between-clause-exact c =
    stopped (λ (x : Args × ℕ). x) (specs.loop_assertions c.args.text.bytes.now c.args.text.tokens.now (outermost c.args.scope.now) c.args.at) c.from_residual-in_err-between.result c.in_err-between.field-0.0 c.from_residual-in_err-between.ensures.1
    (λ refusal e. (Ok (c.in_ok-invariant.invariant, c.in_ok-invariant.first), c.in_ok-invariant.ensures.exact, (Err refusal, rw e at c.in_err-between.ensures.exact, refl)))

pub returns-in_err-_word-clause-exact : goal.returns-in_err-_word-clause-exact
returns-in_err-_word-clause-exact c =
    stopped (λ (x : Args × ℕ). x) (specs.loop_assertions c.args.text.bytes.now c.args.text.tokens.now (outermost c.args.scope.now) c.args.at) c.from_residual-in_err-_word.result c.in_err-_word.field-0.0 c.from_residual-in_err-_word.ensures.1
    (λ refusal e. (Ok (c.in_ok-invariant.invariant, c.in_ok-invariant.first), c.in_ok-invariant.ensures.exact, (Ok (c.in_ok-between.between, c.in_ok-between.second), c.in_ok-between.ensures.exact, (Err refusal, rw (e, c.as_slice.ensures) at c.in_err-_word.ensures.exact, refl))))

pub returns-in_err-left-clause-exact : goal.returns-in_err-left-clause-exact
returns-in_err-left-clause-exact c =
    stopped (λ (x : Args × ℕ). x) (specs.loop_assertions c.args.text.bytes.now c.args.text.tokens.now (outermost c.args.scope.now) c.args.at) c.from_residual-in_err-left.result c.in_err-left.field-0.0 c.from_residual-in_err-left.ensures.1
    (λ refusal e. (Ok (c.in_ok-invariant.invariant, c.in_ok-invariant.first), c.in_ok-invariant.ensures.exact, (Ok (c.in_ok-between.between, c.in_ok-between.second), c.in_ok-between.ensures.exact, (Ok (c.in_ok-_word._word, c.in_ok-_word.third), rw c.as_slice.ensures at c.in_ok-_word.ensures.exact, (Err refusal, rw e at c.in_err-left.ensures.exact, refl)))))

pub returns-clause-exact : goal.returns-clause-exact
returns-clause-exact c =
    (Ok (c.in_ok-invariant.invariant, c.in_ok-invariant.first), c.in_ok-invariant.ensures.exact, (Ok (c.in_ok-between.between, c.in_ok-between.second), c.in_ok-between.ensures.exact, (Ok (c.in_ok-_word._word, c.in_ok-_word.third), rw c.as_slice.ensures at c.in_ok-_word.ensures.exact, (Ok (c.in_ok-left.left, c.in_ok-left.behind), c.in_ok-left.ensures.exact, ap (λ (a : Args). Ok (a, c.in_ok-left.behind)) (c.in_ok-args.ensures ∙ ap specs.with_assertions c.in_ok-all.ensures)))))

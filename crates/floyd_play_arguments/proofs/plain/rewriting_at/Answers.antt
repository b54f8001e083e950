use Rattle.std.proofs.Common.{ℕ, Ok, Err, refl, ap}
use Rattle.floyd_goal_trees.specs.declared.args.Args.{Args}
use Rattle.floyd_play_arguments.specs.Arguments as specs
use Rattle.floyd_play_arguments.proofs.Chains.{stopped}
use Rattle.floyd_play_arguments.proofs.plain.rewriting_at.Goals as goal

pub returns-in_err-back-clause-exact : goal.returns-in_err-back-clause-exact
returns-in_err-back-clause-exact c =
    stopped (λ (x : Args × ℕ). x) (specs.rewritten c.args.text.bytes.now c.args.text.tokens.now c.args.at) c.from_residual.result c.in_err-back.field-0.0 c.from_residual.ensures.1
    (λ refusal e. (Err refusal, rw e at c.in_err-back.ensures.exact, refl))

pub returns-in_err-number-clause-exact : goal.returns-in_err-number-clause-exact
returns-in_err-number-clause-exact c =
    stopped (λ (x : Args × ℕ). x) (specs.rewritten c.args.text.bytes.now c.args.text.tokens.now c.args.at) c.from_residual-in_err-number.result c.in_err-number.field-0.0 c.from_residual-in_err-number.ensures.1
    (λ refusal e. (Ok (c.in_ok-back.back, c.in_ok-back.first), c.in_ok-back.ensures.exact, (Err refusal, rw e at c.in_err-number.ensures.exact, refl)))

pub returns-clause-exact : goal.returns-clause-exact
returns-clause-exact c =
    (Ok (c.in_ok-back.back, c.in_ok-back.first), c.in_ok-back.ensures.exact, (Ok (c.in_ok-number.number, c.in_ok-number.behind), c.in_ok-number.ensures.exact, ap (λ (a : Args). Ok (a, c.in_ok-number.behind)) c.in_ok-args.ensures))

use Rattle.std.proofs.Common.{ℕ, Ok, Err, refl, ap}
use Rattle.floyd_goal_trees.specs.declared.args.Args.{Args}
use Rattle.floyd_play_arguments.specs.Arguments as specs
use Rattle.floyd_play_arguments.proofs.Chains.{stopped}
use Rattle.floyd_play_arguments.proofs.plain.hypothesis_with_givens_at.Goals as goal

pub returns-in_err-names-clause-exact : goal.returns-in_err-names-clause-exact
returns-in_err-names-clause-exact c =
    stopped (λ (x : Args × ℕ). x) (specs.hypothesis_with_givens c.args.text.bytes.now c.args.text.tokens.now c.args.at) c.from_residual-in_err-names.result c.in_err-names.field-0.0 c.from_residual-in_err-names.ensures.1
    (λ refusal e. (Ok (c.in_ok-number.number, c.in_ok-number.first), c.in_ok-number.ensures.exact, (Err refusal, rw e at c.in_err-names.ensures.exact, refl)))

pub returns-clause-exact : goal.returns-clause-exact
returns-clause-exact c =
    (Ok (c.in_ok-number.number, c.in_ok-number.first), c.in_ok-number.ensures.exact, (Ok (c.in_ok-names.names, c.in_ok-names.behind), c.in_ok-names.ensures.exact, ap (λ (a : Args). Ok (a, c.in_ok-names.behind)) c.in_ok-args.ensures))

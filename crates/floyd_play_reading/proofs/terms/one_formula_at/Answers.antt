use Rattle.std.proofs.Common.{ℕ, Ok, Err, refl, ap}
use Rattle.floyd_goal_trees.specs.declared.args.Args.{Args}
use Rattle.floyd_termread.specs.Brackets.{outermost}
use Rattle.floyd_play_arguments.proofs.Chains.{stopped}
use Rattle.floyd_play_reading.specs.Arguments as specs
use Rattle.floyd_play_reading.proofs.terms.one_formula_at.Goals as goal

pub returns-in_err-formula-clause-exact : goal.returns-in_err-formula-clause-exact
returns-in_err-formula-clause-exact c =
    stopped (λ (x : Args × ℕ). x) (specs.one_formula c.args.text.bytes.now c.args.text.tokens.now (outermost c.args.scope.now) c.args.at) c.from_residual.result c.in_err-formula.field-0.0 c.from_residual.ensures.1
    (λ refusal e. (Err refusal, rw e at c.in_err-formula.ensures.exact, refl))

pub returns-clause-exact : goal.returns-clause-exact
returns-clause-exact c =
    (Ok (c.in_ok-formula.formula, c.in_ok-formula.behind), c.in_ok-formula.ensures.exact, ap (λ (a : Args). Ok (a, c.in_ok-formula.behind)) c.in_ok-args.ensures)

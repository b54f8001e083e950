use Rattle.std.proofs.Common.{ℕ, Ok, Err, refl, ap}
use Rattle.floyd_goal_trees.specs.declared.args.Args.{Args}
use Rattle.floyd_termread.specs.Brackets.{outermost}
use Rattle.floyd_play_arguments.proofs.Chains.{stopped}
use Rattle.floyd_play_reading.specs.Arguments as specs
use Rattle.floyd_play_reading.proofs.terms.hypothesis_and_term_at.Goals as goal

pub returns-in_err-on-clause-exact : goal.returns-in_err-on-clause-exact
returns-in_err-on-clause-exact c =
    stopped (λ (x : Args × ℕ). x) (specs.hypothesis_and_term c.args.text.bytes.now c.args.text.tokens.now (outermost c.args.scope.now) c.args.around.goal.now c.args.at) c.from_residual.result c.in_err-on.field-0.0 c.from_residual.ensures.1
    (λ refusal e. (Err refusal, rw e at c.in_err-on.ensures.exact, refl))

pub returns-in_err-term-clause-exact : goal.returns-in_err-term-clause-exact
returns-in_err-term-clause-exact c =
    stopped (λ (x : Args × ℕ). x) (specs.hypothesis_and_term c.args.text.bytes.now c.args.text.tokens.now (outermost c.args.scope.now) c.args.around.goal.now c.args.at) c.from_residual-in_err-term.result c.in_err-term.field-0.0 c.from_residual-in_err-term.ensures.1
    (λ refusal e. (Ok (c.in_ok-on.on, c.in_ok-on.first), c.in_ok-on.ensures.exact, (Err refusal, rw (e, c.in_ok-sort.ensures, c.number_of.ensures) at c.in_err-term.ensures.exact, refl)))

pub returns-clause-exact : goal.returns-clause-exact
returns-clause-exact c =
    (Ok (c.in_ok-on.on, c.in_ok-on.first), c.in_ok-on.ensures.exact, (Ok (c.in_ok-term.term, c.in_ok-term.behind), rw (c.in_ok-sort.ensures, c.number_of.ensures) at c.in_ok-term.ensures.exact, ap (λ (a : Args). Ok (a, c.in_ok-term.behind)) c.in_ok-args.ensures))
